-- What a text is under a grammar.
--   Verdict    accepted, with these tokens, or refused
--   tokens_of  the tokens of the pieces: of those that keep the limits and have a terminal
--   judged     the verdict on pieces: first of all 14, then 15, then 16
--   Judged     the verdict on a text: first of all 12, then 13, then by its pieces
--   Exactly    this value, and no other
--   told       what a scan answers, as a verdict; told_by, by the list that its answer holds
use Rattle.std.specs.Prelude.{◌≡◌, ℕ, ◌<◌, ◌≤◌, Bool, cond, not, ◌||◌, List, [], ◌∷◌, ◌++◌, length, is_some, Some, None, Ok, Err, Option}
use Rattle.std.specs.Prelude.{Result, ◌==◌, nat_lt}
use Rattle.std.specs.Option.{option_map, option_to_list}
use Rattle.faults.specs.declared.fault.Position.{Position}
use Rattle.faults.specs.declared.fault.Fault.{Fault}
use Rattle.faults.specs.declared.fault.Fault.TheVariants.{TextTooLong, NoPiece, PieceOutOfBounds, PieceCount, NoTerminal}
use Rattle.pieces.specs.Pieces.{Found, Cutting, Cut, into, stuck}
use Rattle.pieces.specs.Reader.{position}
use Rattle.grammar.specs.Model.{Model, terminal_of}
use Rattle.text.specs.declared.token.Token.{Token}
use Rattle.text.specs.declared.token.Tokens.{Tokens}
use Rattle.text.specs.Tokens.{listed}

pub data Verdict : Type 0 where
  accepted : List Token → Verdict
  refused : Fault → Verdict

-- a piece of more than 32 bytes, or past column 63
abbrev pub out_of_bounds : Found → Bool
out_of_bounds x = nat_lt 32 (length x.bytes) || nat_lt 63 x.place.column

-- a piece without terminal
abbrev pub unknown : Model → Found → Bool
unknown G x = not (is_some (terminal_of G x.bytes))

-- the first piece of which that holds
abbrev pub first_of : (Found → Bool) → List Found → Option Found
first_of test [] = None
first_of test (x ∷ xs) = cond (test x) (Some x) (first_of test xs)

abbrev pub token : Found → ℕ → Token
token x t =
    record { start = x.place.offset; length = length x.bytes; line = x.place.line; column = x.place.column; terminal = t }

-- with that terminal, if the piece keeps the limits
abbrev pub token_with : Found → Option ℕ → Option Token
token_with x o = cond (out_of_bounds x) None (option_map (token x) o)

abbrev pub tokens_of : Model → List Found → List Token
tokens_of G [] = []
tokens_of G (x ∷ xs) = option_to_list (token_with x (terminal_of G x.bytes)) ++ tokens_of G xs

-- refused at a piece, if there is one
abbrev pub refused_at : (Position → Fault) → Option Found → Verdict → Verdict
refused_at f (Some x) v = refused (f (position x.place))
refused_at f None v = v

abbrev pub judged : Model → List Found → Verdict
judged G ps =
    refused_at PieceOutOfBounds (first_of out_of_bounds ps)
    (cond (length ps == 0 || nat_lt 128 (length ps)) (refused PieceCount)
    (refused_at NoTerminal (first_of (unknown G) ps) (accepted (tokens_of G ps))))

abbrev pub verdict_on : Model → Cutting → Verdict
verdict_on G (into ps) = judged G ps
verdict_on G (stuck p) = refused (NoPiece (position p))

pub record Judged (G : Model) (text : List ℕ) (v : Verdict) : Type 0 where
  pub long : 12288 < length text → v ≡ refused TextTooLong
  pub cut : length text ≤ 12288 → (k : Cutting) × Cut text k × (v ≡ verdict_on G k)

-- what is answered of a text, as a verdict; list gives the tokens
abbrev pub told_by : {X : Type 0} → (X → List Token) → Result X Fault → Verdict
told_by list (Ok ts) = accepted (list ts)
told_by list (Err f) = refused f

-- what a scan answers
abbrev pub told : Result Tokens Fault → Verdict
told r = told_by listed r

pub record Exactly {X : Type 0} (P : X → Type 0) (x : X) : Type 0 where
  pub holds : P x
  pub only : (y : X) → P y → y ≡ x
