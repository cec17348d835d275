use Rattle.std.proofs.lemmas.Result.{err_from_is_err_and}
use Rattle.tree.specs.Terminals.{listed}
use Rattle.tree.specs.Walks.{rules_of}
use Rattle.tree.proofs.Tops.{no_top}
use Rattle.tree.proofs.walk.Walk.new.Goals as goal

pub returns-in_err-enter-clause-top : goal.returns-in_err-enter-clause-top
returns-in_err-enter-clause-top g c =
    let p = err_from_is_err_and c.from_residual.result c.from_residual.ensures.1 in
    let none = c.in_err-enter.ensures.enters in
    rw (p.1, p.2)
    (none.0, no_top (g.G.Grammar.model c.args.grammar.now) (rules_of c.args.nodes.now) (listed c.args.terminals.now) none.1)
