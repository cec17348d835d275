-- What a galley tells of its pieces.
--   piece_told   place, length and terminal of the piece of that number; none past the end
use Rattle.std.specs.Prelude.{ℕ, List, take, Option}
use Rattle.std.specs.Option.{option_map}
use Rattle.std.specs.List.{slice_get}
use Rattle.tree.specs.declared.piece.PieceRecord.{PieceRecord}
use Rattle.tree.specs.Pieces.{total}
use Rattle.galley.specs.declared.piece_facts.PieceFacts.{PieceFacts}

-- the place is the sum of the lengths before it
abbrev pub facts_at : List PieceRecord → ℕ → PieceRecord → PieceFacts
facts_at ps i p = record { place = total (take i ps); length = p.length; terminal = p.terminal }

abbrev pub piece_told : List PieceRecord → ℕ → Option PieceFacts
piece_told ps i = option_map (facts_at ps i) (slice_get ps i)
