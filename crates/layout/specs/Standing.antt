-- Pieces with their places.
--   stand      a piece's record with its place
--   standing   the records with their places, as far as there are places
use Rattle.std.specs.Prelude.{List, [], ◌∷◌}
use Rattle.tree.specs.declared.piece.PieceRecord.{PieceRecord}
use Rattle.layout.specs.declared.placement.Placement.{Placement}

abbrev pub stand : PieceRecord → Placement → PieceRecord
stand p q = record { length = p.length; terminal = p.terminal; column = q.column; opens_line = q.opens_line }

abbrev pub standing : List PieceRecord → List Placement → List PieceRecord
standing [] qs = []
standing (p ∷ ps) [] = p ∷ ps
standing (p ∷ ps) (q ∷ qs) = stand p q ∷ standing ps qs
