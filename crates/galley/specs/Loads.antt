-- The pieces of a text as a galley holds them.
--   bytes_of    the bytes of all tokens, without gaps
--   byte_count  how many these are
--   record_of   the record of a token's piece
use Rattle.std.specs.Prelude.{ℕ, false, List, map, sum_by}
use Rattle.std.specs.List.{flat_map}
use Rattle.text.specs.Inside.{bytes_at}
use Rattle.text.specs.declared.token.Token.{Token}
use Rattle.tree.specs.declared.piece.PieceRecord.{PieceRecord}

abbrev pub bytes_of : List ℕ → List Token → List ℕ
bytes_of text ts = flat_map (bytes_at text) ts

abbrev pub byte_count : List Token → ℕ
byte_count ts = sum_by (λ t. t.length) ts

abbrev pub record_of : Token → PieceRecord
record_of t = record { length = t.length; terminal = t.terminal; column = 0; opens_line = false }

abbrev pub records_of : List Token → List PieceRecord
records_of ts = map record_of ts
