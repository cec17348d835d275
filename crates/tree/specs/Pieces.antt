-- The pieces of a tree.
--   total           how many bytes they have
--   longest         how many bytes the longest has
--   all_one_piece   bytes that stand without gaps are each one piece by themselves
use Rattle.std.specs.Prelude.{ℕ, ◌+◌, max, Bool, true, ◌&&◌, List, [], ◌∷◌, take, drop}
use Rattle.pieces.specs.Alone.{one_piece}
use Rattle.tree.specs.declared.piece.PieceRecord.{PieceRecord}

abbrev pub total : List PieceRecord → ℕ
total [] = 0
total (p ∷ ps) = p.length + total ps

abbrev pub longest : List PieceRecord → ℕ
longest [] = 0
longest (p ∷ ps) = max p.length (longest ps)

abbrev pub all_one_piece : List ℕ → List PieceRecord → Bool
all_one_piece bytes [] = true
all_one_piece bytes (p ∷ ps) = one_piece (take p.length bytes) && all_one_piece (drop p.length bytes) ps
