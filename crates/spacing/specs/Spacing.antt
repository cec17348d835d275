-- Pieces that stand apart, and the limits on the pieces of a text.
--   Apart    pieces in columns up to 63, of which none runs into the one before it on its line, and the first of all opens no line;
--            the cursor is one column behind what stands already
--   Limits   at most 128 pieces that have just these bytes, each of at most 32 and one piece by itself
use Rattle.std.specs.Prelude.{◌≡◌, ℕ, ◌+◌, ◌≤◌, true, false, List, [], ◌∷◌, length}
use Rattle.tree.specs.declared.piece.PieceRecord.{PieceRecord}
use Rattle.tree.specs.Pieces.{total, longest, all_one_piece}

abbrev pub Apart : ℕ → List PieceRecord → Type 0
Apart cursor [] = Unit {0}
Apart cursor (p ∷ ps) =
    (p.column ≤ 63)
    × (p.opens_line ≡ false → cursor ≤ p.column)
    × (cursor ≡ 0 → p.opens_line ≡ false)
    × Apart (p.column + p.length + 1) ps

pub record Limits (bytes : List ℕ) (ps : List PieceRecord) : Type 0 where
  pub alone : all_one_piece bytes ps ≡ true
  pub whole : total ps ≡ length bytes
  pub few : length ps ≤ 128
  pub short : longest ps ≤ 32
