use Rattle.std.proofs.Common.{◌≡◌, ℕ, List, ◌++◌}
use Rattle.tree.specs.Parts.{parts_left}
use Rattle.layout.specs.Text.{text}
use Rattle.layout.specs.Writers.{Wrote}
use Rattle.layout.proofs.Emits.{written}
use Rattle.layout.proofs.text.emit.Given as goal

abbrev pub invariant-loop-piece : goal.invariant-loop-piece
invariant-loop-piece l =
    (done : List ℕ)
    × Wrote l.initial.writer l.writer done
    × (done ++ written l.writer.reached (parts_left l.piece-iterator) ≡ text 0 l.contents.pieces.now l.contents.bytes.now)
