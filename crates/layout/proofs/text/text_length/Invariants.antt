use Rattle.std.proofs.Common.{◌≡◌, ◌+◌, ◌*◌, ◌≤◌, drop}
use Rattle.layout.specs.Text.{width}
use Rattle.layout.proofs.text.text_length.Given as goal

abbrev pub invariant-loop-piece : goal.invariant-loop-piece
invariant-loop-piece l = (l.length ≤ 288 * l.piece-index)
    × (l.length + width l.reached (drop l.piece-index l.contents.pieces.now) ≡ width 0 l.contents.pieces.now)
