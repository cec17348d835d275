use Rattle.std.proofs.Common.{ℕ, List, Bor, length, refl, ap, arith}
use Rattle.pieces.specs.Pieces.{Reads}
use Rattle.pieces.proofs.Progress.{past_blank, paused, ended, left_at, left_inside, left_past}
use Rattle.pieces.proofs.reader.PieceReader.skip_blanks.Goals as goal

pub loop-byte-init : goal.loop-byte-init
loop-byte-init c = (refl, omega arith, Reads.here)

pub returns-in_default : goal.returns-in_default
returns-in_default c =
    let l = c.loop-byte in
    let text = c.args.self.now.text.now in
    let same = ap (λ (t : Bor (List ℕ)). t.now) l.invariant.0 in
    let at = left_at text c.args.self.now.offset l.byte-index l.self.offset l.invariant.1 in
    let inside = left_inside text c.args.self.now.offset l.byte-index l.self.offset l.invariant.1 c.loop-byte-test.true in
    record {
      text = l.invariant.0;
      reads = l.invariant.2;
      stands = rw same (paused text l.self.offset inside l.self.position (rw at at c.in_default.ensures.is));
    }

pub invariant_of-self : goal.invariant_of-self
invariant_of-self c =
    let l = c.loop-byte in
    let at = left_inside c.args.self.now.text.now c.args.self.now.offset l.byte-index l.self.offset
    l.invariant.1 c.loop-byte-test.true in
    let same = ap (λ (t : Bor (List ℕ)). length t.now) l.invariant.0 in
    record {
      within = omega (arith, at, same);
      near = omega (arith, at);
      lines = omega (arith, c.in-Some.ensures.near);
      columns = omega (arith, c.in-Some.ensures.near);
    }

pub loop-byte-preserved : goal.loop-byte-preserved
loop-byte-preserved c =
    let l = c.loop-byte in
    let text = c.args.self.now.text.now in
    let same = ap (λ (t : Bor (List ℕ)). t.now) l.invariant.0 in
    let at = left_at text c.args.self.now.offset l.byte-index l.self.offset l.invariant.1 in
    let inside = left_inside text c.args.self.now.offset l.byte-index l.self.offset l.invariant.1 c.loop-byte-test.true in (
      l.invariant.0,
      omega (arith, l.invariant.1),
      rw same (past_blank text l.self.offset inside l.self.position c.in-Some.position (rw at at c.in-Some.ensures.is)
          (rw same at l.invariant.2)),
    )

pub returns : goal.returns
returns c =
    let l = c.loop-byte in
    let same = ap (λ (t : Bor (List ℕ)). t.now) l.invariant.0 in
    record {
      text = l.invariant.0;
      reads = l.invariant.2;
      stands =
          rw same (ended c.args.self.now.text.now l.self.offset
          (left_past c.args.self.now.text.now c.args.self.now.offset l.byte-index l.self.offset l.invariant.1
          c.args.self.now.within (omega (arith, c.loop-byte-test.false))));
    }
