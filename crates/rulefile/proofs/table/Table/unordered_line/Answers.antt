use Rattle.std.proofs.Common.{◌≡◌, ◌+◌, not, rules, sym, ◌∙◌}
use Rattle.std.specs.Option.{option_map}
use Rattle.std.proofs.lemmas.Iterator.{YieldsList-from_slice}
use Rattle.std.proofs.lemmas.Iterator.Search.{position_from_yields_List}
use borrow.Author.Tests.{tests}
use Rattle.grammar.specs.declared.rule.Rule.{Rule}
use Rattle.rulefile.specs.Bounds.{ordered}
use Rattle.rulefile.specs.Tables.{rules as rules_of}
use Rattle.rulefile.proofs.Positions.{numbered_from}
use Rattle.rulefile.proofs.table.Table.unordered_line.Goals as goal

pub returns : goal.returns
returns c =
    let all = c.args.self.now.rules in
    let test = λ (r : Rule). not (ordered r) in
    let same : c.map.result ≡ option_map (λ k. k + 2) c.position.result = search rules in
    let p = position_from_yields_List test _ _ c.position.result c.position.ensures.ran (YieldsList-from_slice all.items cc)
    (λ x b q k. search (rules, tests)) in
    same
    ∙ numbered_from test 2 (rules_of all) c.position.result (sym p)
