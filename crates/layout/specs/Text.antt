-- The text of pieces that stand in their columns.
--   lead      what comes before a piece where the line has reached a column: spaces up to the piece's own, on a new line if it opens one
--   reached   the column that the line has reached behind a piece
--   text      what is written of pieces from a column on, up to the end of the last line
--   width     how many bytes that has
--   Written   a text was put at the front and its length answered, or none where it does not fit
use Rattle.std.specs.Prelude.{◌≡◌, ℕ, ◌+◌, ◌-◌, ◌<◌, ◌≤◌, cond, List, [], ◌∷◌, ◌++◌, length, take, drop, replicate, Some, None, Option}
use Rattle.tree.specs.declared.piece.PieceRecord.{PieceRecord}

abbrev pub lead : ℕ → PieceRecord → List ℕ
lead at p = cond p.opens_line (10 ∷ replicate p.column 32) (replicate (p.column - at) 32)

abbrev pub reached : PieceRecord → ℕ
reached p = p.column + p.length

abbrev pub text : ℕ → List PieceRecord → List ℕ → List ℕ
text at [] bytes = 10 ∷ []
text at (p ∷ ps) bytes = (lead at p ++ take p.length bytes) ++ text (reached p) ps (drop p.length bytes)

abbrev pub width : ℕ → List PieceRecord → ℕ
width at [] = 1
width at (p ∷ ps) = (length (lead at p) + p.length) + width (reached p) ps

abbrev pub Written : List ℕ → List ℕ → List ℕ → Option ℕ → Type 0
Written t before after None = (length before < length t) × (after ≡ before)
Written t before after (Some n) = (n ≡ length t) × (n ≤ length before) × (after ≡ t ++ drop n before)
