-- The text of laid-out pieces, read again.
--   Again            pieces found in a text are these, in order, with their bytes and in their columns
--   TokenOf          a token of a text is this piece
--   Retold           the tokens of a text are these pieces, in order
--   ReadsAsPieces    the text of these pieces is short enough, falls into just them, and is accepted with just their tokens
use Rattle.std.specs.Prelude.{◌≡◌, ℕ, ◌≤◌, List, [], ◌∷◌, map, length, take, drop, Some}
use Rattle.std.specs.List.{flat_map}
use Rattle.pieces.specs.Pieces.{Found, Cut, into}
use Rattle.grammar.specs.Model.{Model, terminal_of}
use Rattle.text.specs.declared.token.Token.{Token}
use Rattle.text.specs.Verdict.{accepted, Judged}
use Rattle.tree.specs.declared.piece.PieceRecord.{PieceRecord}
use Rattle.tree.specs.Terminals.{terminals_of}
use Rattle.layout.specs.Text.{text}

abbrev pub Again : List ℕ → List PieceRecord → List Found → Type 0
Again bytes [] [] = Unit {0}
Again bytes [] (f ∷ fs) = ⊥
Again bytes (p ∷ ps) [] = ⊥
Again bytes (p ∷ ps) (f ∷ fs) =
    (f.bytes ≡ take p.length bytes) × (f.place.column ≡ p.column) × Again (drop p.length bytes) ps fs

-- the bytes of a token in its text
abbrev pub bytes_at : List ℕ → Token → List ℕ
bytes_at text t = take t.length (drop t.start text)

-- held are the bytes of the piece
pub record TokenOf (G : Model) (text held : List ℕ) (p : PieceRecord) (t : Token) : Type 0 where
  pub long : t.length ≡ p.length
  pub column : t.column ≡ p.column
  pub terminal : terminal_of G held ≡ Some t.terminal
  pub bytes : bytes_at text t ≡ held

abbrev pub Retold : Model → List ℕ → List ℕ → List PieceRecord → List Token → Type 0
Retold G text bytes [] [] = Unit {0}
Retold G text bytes [] (t ∷ ts) = ⊥
Retold G text bytes (p ∷ ps) [] = ⊥
Retold G text bytes (p ∷ ps) (t ∷ ts) = TokenOf G text (take p.length bytes) p t × Retold G text (drop p.length bytes) ps ts

pub record ReadsAsPieces (G : Model) (bytes : List ℕ) (ps : List PieceRecord) : Type 0 where
  pub short : length (text 0 ps bytes) ≤ 12288
  pub found : List Found
  pub cut : Cut (text 0 ps bytes) (into found)
  pub again : Again bytes ps found
  pub tokens : List Token
  pub judged : Judged G (text 0 ps bytes) (accepted tokens)
  pub retold : Retold G (text 0 ps bytes) bytes ps tokens
  pub lengths : map (λ (t : Token). t.length) tokens ≡ map (λ (p : PieceRecord). p.length) ps
  pub columns : map (λ (t : Token). t.column) tokens ≡ map (λ (p : PieceRecord). p.column) ps
  pub terminals : terminals_of G bytes ps ≡ Some (map (λ (t : Token). t.terminal) tokens)
  pub bytes_same : flat_map (bytes_at (text 0 ps bytes)) tokens ≡ bytes
