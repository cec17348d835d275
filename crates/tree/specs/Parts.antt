-- Pieces with their bytes.
--   parts        pieces whose bytes stand without gaps, each with its own
--   part         one that is lent
--   parts_left   those that are still to come
use Rattle.std.specs.Prelude.{ℕ, List, [], ◌∷◌, take, drop}
use Rattle.std.specs.Borrow.{Bor}
use Rattle.tree.specs.declared.piece.PieceRecord.{PieceRecord}
use Rattle.tree.specs.declared.parts.Parts.{Parts}

abbrev pub parts : List ℕ → List PieceRecord → List (PieceRecord × List ℕ)
parts bytes [] = []
parts bytes (p ∷ ps) = (p, take p.length bytes) ∷ parts (drop p.length bytes) ps

abbrev pub part : Bor PieceRecord × Bor (List ℕ) → PieceRecord × List ℕ
part (p, bytes) = (p.now, bytes.now)

abbrev pub parts_left : Parts → List (PieceRecord × List ℕ)
parts_left s = parts s.bytes.now s.pieces.now
