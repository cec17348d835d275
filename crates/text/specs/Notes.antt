-- What is noted of the pieces of a text so far.
--   Noted   how many they are, where the first out of bounds and the first without terminal stand, and the first 128 tokens
--   pushed  the tokens in a vector of them
--   Adds    one set of notes has one piece more than another
use Rattle.std.specs.Prelude.{◌≡◌, List, [], ◌∷◌, ◌++◌, length, take, Option}
use Rattle.std.specs.Option.{option_map}
use Rattle.arrayvec.specs.ArrayVec.{ArrayVec}
use Rattle.faults.specs.declared.fault.Position.{Position}
use Rattle.pieces.specs.Pieces.{Found}
use Rattle.pieces.specs.Reader.{position}
use Rattle.grammar.specs.Model.{Model}
use Rattle.text.specs.declared.token.Token.{Token}
use Rattle.text.specs.declared.notes.Notes.{Notes}
use Rattle.text.specs.Verdict.{out_of_bounds, unknown, first_of, tokens_of}

abbrev pub pushed : ArrayVec Token → List Token
pushed ts = ts.items

abbrev pub place_of : Option Found → Option Position
place_of o = option_map (λ x. position x.place) o

pub record Noted (G : Model) (ps : List Found) (n : Notes) : Type 0 where
  pub count : n.count ≡ length ps
  pub out : n.out_of_bounds ≡ place_of (first_of out_of_bounds ps)
  pub unknown : n.unknown ≡ place_of (first_of (unknown G) ps)
  pub tokens : pushed n.tokens ≡ take 128 (tokens_of G ps)

-- m has one piece more than n
abbrev pub Adds : Model → Notes → Found → Notes → Type 0
Adds G n x m = (ps : List Found) → Noted G ps n → Noted G (ps ++ x ∷ []) m
