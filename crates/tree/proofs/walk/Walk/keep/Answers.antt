use Rattle.std.proofs.Common.{rules}
use Rattle.tree.proofs.Waits.{kept}
use Rattle.tree.proofs.walk.Walk.keep.Goals as goal

pub returns-in-Some-clause-slots : goal.returns-in-Some-clause-slots
returns-in-Some-clause-slots g c =
    let t = c.try_push.ensures in
    let cases = c.map_err.ensures.cases in
    rw c.in-Some.is
    (kept c.in-Some.frame c.args.self.now c.try_push.new.self c.map_err.result c.try_push.result _ (λ e f h. search rules) cases t.ok
    t.full)
