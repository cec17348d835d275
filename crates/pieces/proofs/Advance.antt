-- Every piece takes the reader at least one byte further.
use Rattle.std.proofs.Common.{ℕ, ◌+◌, ◌≤◌, List, length, ap, arith}
use Rattle.pieces.specs.Pieces.{Place, Found, Reads}
use Rattle.pieces.proofs.Unique.{some_byte}

pub advance : {p q : Place} {s t : List ℕ} {ps : List Found} → Reads p s ps q t → p.offset + length ps ≤ q.offset
advance Reads.here = omega arith
advance (Reads.line e h) = omega (arith, advance h)
advance (Reads.space e h) = omega (arith, advance h)
advance (Reads.piece {w = w} {s = s} {c = c} e f h) =
    let b = some_byte c w s f in
    omega (arith, advance h, ap (λ (v : List ℕ). length v) b.2)
