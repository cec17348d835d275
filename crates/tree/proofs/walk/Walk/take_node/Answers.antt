use Rattle.std.proofs.lemmas.Result.{err_from_is_err_and}
use Rattle.tree.proofs.walk.Walk.take_node.Goals as goal

pub returns-in_err-enter-clause-takes : goal.returns-in_err-enter-clause-takes
returns-in_err-enter-clause-takes g c =
    let p = err_from_is_err_and c.from_residual.result c.from_residual.ensures.1 in
    let none = c.in_err-enter.ensures.enters in
    rw (p.1, p.2) (none.0, none.1 c.args.left)
