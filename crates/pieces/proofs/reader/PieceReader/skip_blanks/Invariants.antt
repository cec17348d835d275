use Rattle.std.proofs.Common.{◌≡◌, ◌+◌, []}
use Rattle.pieces.specs.Pieces.{Reads}
use Rattle.pieces.specs.Reader.{place, rest}
use Rattle.pieces.proofs.reader.PieceReader.skip_blanks.Given as goal

-- the reader stands at the byte that comes next, behind blanks only
abbrev pub invariant-loop-byte : goal.invariant-loop-byte
invariant-loop-byte l =
    (l.self.text ≡ l.initial.self.text) × (l.self.offset ≡ l.initial.self.offset + l.byte-index)
    × Reads (place l.initial.self) (rest l.initial.self) [] (place l.self) (rest l.self)
