use Rattle.std.proofs.lemmas.Result.{err_from_is_err_and}
use Rattle.galley.proofs.Taking.{read-refused}
use Rattle.galley.proofs.read.Store+Node.hold_reading.Goals as goal

pub returns-in_err-self : goal.returns-in_err-self
returns-in_err-self g c =
    let p = err_from_is_err_and c.from_residual.result c.from_residual.ensures.1 in
    let f = c.in_err-self.field-0.0 in
    rw (p.1, p.2) (read-refused _ _ _ _ c.args.self.now c.first_reading.new.nodes f _ c.in_err-self.ensures.answer)
