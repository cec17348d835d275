-- What the piece reader hands out.
--   place, rest   where a reader stands, and the bytes from there on
--   found         a piece that is handed out, as one found in the text
--   Between       the pieces from where one reader stands up to where another stands
--   Finds         the next piece, or none at the end, or the fault where the text is stuck
--   Hands         one step: what the text has next, unless the text is too long
use Rattle.std.specs.Prelude.{◌≡◌, ℕ, ◌+◌, ◌<◌, ◌≤◌, List, [], ◌∷◌, length, drop, Some, None, Ok, Err, Option, Result, ◌≢◌}
use Rattle.faults.specs.declared.fault.Position.{Position}
use Rattle.faults.specs.declared.fault.Fault.{Fault}
use Rattle.faults.specs.declared.fault.Fault.TheVariants as fault
use Rattle.pieces.specs.declared.kind.Kind.{Kind}
use Rattle.pieces.specs.declared.kind.Kind.TheVariants.{LineEnd, Separator, Letter, Digit, Quote, Sign, Other}
use Rattle.pieces.specs.declared.piece.Piece.{Piece}
use Rattle.pieces.specs.declared.reader.PieceReader.{PieceReader}
use Rattle.pieces.specs.Pieces.{Place, Found, Reads, NoPiece}

abbrev pub place : PieceReader → Place
place r = record { offset = r.offset; line = r.position.line; column = r.position.column }

abbrev pub rest : PieceReader → List ℕ
rest r = drop r.offset r.text.now

-- line and column of a place
abbrev pub position : Place → Position
position p = record { line = p.line; column = p.column }

abbrev pub found : Piece → Found
found x =
    record {
      place = record { offset = x.start; line = x.position.line; column = x.position.column };
      class = x.class;
      bytes = x.bytes.now;
    }

-- behind a line end or a space
abbrev pub position_behind : Kind → Position → Option Position
position_behind LineEnd p = Some (record { line = p.line + 1; column = 0 })
position_behind Separator p = Some (record { line = p.line; column = p.column + 1 })
position_behind Letter p = None
position_behind Digit p = None
position_behind Quote p = None
position_behind Sign p = None
position_behind Other p = None

-- neither a space nor a line end comes next
abbrev pub Pause : List ℕ → Type 0
Pause [] = Unit {0}
Pause (b ∷ bs) = (b ≢ 10) × (b ≢ 32)

-- from where x stands up to where y stands the text has these pieces
abbrev pub Between : PieceReader → List Found → PieceReader → Type 0
Between x ps y = Reads (place x) (rest x) ps (place y) (rest y)

-- the text's next piece, or none at its end, or that it is stuck
abbrev pub Finds : PieceReader → Result (Option Piece) Fault → PieceReader → Type 0
Finds x (Ok (Some p)) y = Between x (found p ∷ []) y
Finds x (Ok None) y = Between x [] y × (rest y ≡ [])
Finds x (Err f) y = Between x [] y × NoPiece (rest y) × (f ≡ fault.NoPiece (position (place y)))

pub record Hands (x : PieceReader) (r : Result (Option Piece) Fault) (y : PieceReader) : Type 0 where
  pub text : y.text ≡ x.text
  pub next : length x.text.now ≤ 12288 → Finds x r y
  pub long : 12288 < length x.text.now → (r ≡ Err fault.TextTooLong) × (y ≡ x)
