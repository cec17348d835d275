use Rattle.std.proofs.Common.{◌≡◌, Some, None, Option, rules, sym, ap, subst, ◌∙◌}
use Rattle.std.proofs.lemmas.Iterator.{YieldsList-from_slice}
use Rattle.std.proofs.lemmas.Iterator.Search.{position_from_yields_List}
use borrow.Author.Tests.{tests}
use Rattle.pieces.specs.declared.piece.Class.{Class}
use Rattle.grammar.specs.Model.{classed, first_with}
use Rattle.rulefile.specs.declared.terminal.Terminal.{Terminal}
use Rattle.rulefile.specs.Denoted.{denoted}
use Rattle.rulefile.specs.Tables.{terminals}
use Rattle.rulefile.proofs.Positions.{first_among, no_test}
use Rattle.rulefile.proofs.table.Terminals.of_class.Goals as goal

pub returns-in_err-class : goal.returns-in_err-class
returns-in_err-class c =
    let ts = terminals c.args.self.now in
    c.from_residual.ensures
    ∙ subst (λ (o : Option Class). None ≡ first_with (classed o) ts) (sym c.in_err-class.was) (no_test ts)

pub returns : goal.returns
returns c =
    let all = c.args.self.now.list.items in
    let class = c.in_ok-class.class in
    let test = λ (t : Terminal). classed (Some class) (denoted t) in
    let same : c.map.result ≡ c.position.result = search rules in
    same
    ∙ position_from_yields_List test _ _ c.position.result c.position.ensures.ran (YieldsList-from_slice all cc)
    (λ x b q k. search (rules, tests))
    ∙ first_among denoted (classed (Some class)) all
    ∙ ap (λ (o : Option Class). first_with (classed o) (terminals c.args.self.now)) (sym c.in_ok-class.was)
