use Rattle.std.proofs.Common.{length, Err, subst, inr}
use Rattle.galley.specs.declared.slip.Declined.{Declined}
use Rattle.galley.specs.Writes.{Wrote, write_fault}
use Rattle.galley.proofs.Writing.{declined_same}
use Rattle.galley.proofs.galley.Galley.lay_and_write.Goals as goal

pub returns-in-Err-clause-prints : goal.returns-in-Err-clause-prints
returns-in-Err-clause-prints g c =
    let s = c.in_ok-slip.slip in
    let y = c.lay.new.self in
    let old = c.args.buffer.now in
    let start = c.args.start in
    let o = write_fault s y (length old) start in
    let w = c.in-Err.ensures in
    let same = declined_same o s y old start c.in-Err.field-0 c.write.new.self c.write.new.buffer w in
    inr (record {
      slip = s;
      laid = y;
      still = c.write.new.self;
      lays = c.in_ok-slip.ensures;
      declines = subst (λ (e : Declined). Wrote o s y old start (Err e) c.write.new.self c.write.new.buffer) same w;
      lets = c.let_go.ensures;
    })
