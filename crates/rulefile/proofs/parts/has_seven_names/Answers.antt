use Rattle.std.proofs.Common.{◌≡◌, ℕ, List, Bor, Bool, ◌&&◌, rules, ap, ◌∙◌}
use Rattle.std.specs.List.{list_all}
use Rattle.std.proofs.lemmas.Iterator.{YieldsList-from_slice}
use Rattle.std.proofs.lemmas.Iterator.Search.{all_from_yields_List}
use borrow.Author.Tests.{tests}
use Rattle.rulefile.specs.Parts.{values, among, names}
use Rattle.rulefile.proofs.parts.has_seven_names.Goals as goal

pub returns-then-has_seven_values : goal.returns-then-has_seven_values
returns-then-has_seven_values c =
    let vs = values c.args.line.now in
    let a : c.all.result ≡ list_all (among vs) names
    = all_from_yields_List (λ (n : Bor (List ℕ)). among vs n.now) c.all.new.self _ c.all.result c.all.ensures.ran
    (YieldsList-from_slice _ c.iter.ensures.rest) (λ x b q k. search (rules, tests)) in
    a ∙ ap (λ (b : Bool). b && list_all (among vs) names) c.if-has_seven_values.ensures
