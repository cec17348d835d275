use Rattle.std.proofs.Common.{◌≡◌, ◌-◌, List, length}
use Rattle.pieces.specs.Pieces.{Found, Reads, start}
use Rattle.pieces.specs.Reader.{place, rest}
use Rattle.text.specs.Notes.{Noted}
use Rattle.text.proofs.scan.scan.Given as goal

-- the pieces so far are read and noted
abbrev pub invariant-loop-piece : goal.invariant-loop-piece
invariant-loop-piece g l =
    (l.reader.text.now ≡ l.text)
    × ((ps : List Found) × Reads start l.text ps (place l.reader) (rest l.reader)
    × Noted (g.G.Grammar.model l.g) ps l.notes)

abbrev pub decreases-loop-piece : goal.decreases-loop-piece
decreases-loop-piece g l = length l.text - l.reader.offset
