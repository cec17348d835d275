-- The pieces of a text.
--   Place     how many bytes, lines and columns a byte is from the start of the text
--   Found     a piece in a text: its place, its class and its bytes
--   Forms     these bytes are one piece of that class, where the others follow
--   Reads     from one place up to another, a text consists of these pieces, with spaces and line ends between
--   NoPiece   what follows is neither a space nor a line end, and no piece begins it
--   Cut       a text falls into these pieces, or is stuck at that place
use Rattle.std.specs.Prelude.{◌≡◌, ℕ, ◌+◌, Bool, true, false, List, [], ◌∷◌, ◌++◌, length, ◌≢◌}
use Rattle.std.specs.List.{AllByRecursion}
use Rattle.pieces.specs.declared.piece.Class.{Class}
use Rattle.pieces.specs.declared.piece.Class.TheVariants.{Name, Number, Quote, Sign}
use Rattle.pieces.specs.Kinds.{letter, digit, sign, goes_on, quotable}

pub record Place : Type 0 where
  pub offset : ℕ
  pub line : ℕ
  pub column : ℕ

abbrev pub start : Place
start = record { offset = 0; line = 1; column = 0 }

-- n bytes further on the same line
abbrev pub right : ℕ → Place → Place
right n p = record { offset = p.offset + n; line = p.line; column = p.column + n }

-- behind a line end
abbrev pub below : Place → Place
below p = record { offset = p.offset + 1; line = p.line + 1; column = 0 }

pub record Found : Type 0 where
  pub place : Place
  pub class : Class
  pub bytes : List ℕ

-- the first byte is there and passes the test
abbrev pub Begins : (ℕ → Bool) → List ℕ → Type 0
Begins test [] = ⊥
Begins test (b ∷ bs) = test b ≡ true

-- every byte passes the test
abbrev pub Passes : (ℕ → Bool) → List ℕ → Type 0
Passes test bs = AllByRecursion (λ b. test b ≡ true) bs

-- the first byte, if there is one, fails the test
abbrev pub Stops : (ℕ → Bool) → List ℕ → Type 0
Stops test [] = Unit {0}
Stops test (b ∷ bs) = test b ≡ false

-- names and numbers are longest runs; a quote runs from a byte 34 to the next one
abbrev pub Forms : Class → List ℕ → List ℕ → Type 0
Forms Name w rest = Begins letter w × Passes goes_on w × Stops goes_on rest
Forms Number w rest = Begins digit w × Passes digit w × Stops digit rest
Forms Quote w rest = (inside : List ℕ) × (w ≡ 34 ∷ (inside ++ 34 ∷ [])) × Passes quotable inside
Forms Sign w rest = Begins sign w × (length w ≡ 1)

-- from p, where text begins, up to q, where rest begins
pub data Reads : Place → List ℕ → List Found → Place → List ℕ → Type 0 where
  here : {p : Place} {rest : List ℕ} → Reads p rest [] p rest
  line : {p q : Place} {text s rest : List ℕ} {ps : List Found} → text ≡ 10 ∷ s → Reads (below p) s ps q rest → Reads p text ps q rest
  space : {p q : Place} {text s rest : List ℕ} {ps : List Found} → text ≡ 32 ∷ s → Reads (right 1 p) s ps q rest → Reads p text ps q rest
  piece : {p q : Place} {text w s rest : List ℕ} {ps : List Found} {c : Class} → text ≡ w ++ s → Forms c w s
      → Reads (right (length w) p) s ps q rest → Reads p text (record { place = p; class = c; bytes = w } ∷ ps) q rest

abbrev pub NoPiece : List ℕ → Type 0
NoPiece [] = ⊥
NoPiece (b ∷ bs) =
    (b ≢ 10) × (b ≢ 32) × ((c : Class) (w rest : List ℕ) → b ∷ bs ≡ w ++ rest → Forms c w rest → ⊥)

pub data Cutting : Type 0 where
  into : List Found → Cutting
  stuck : Place → Cutting

abbrev pub Cut : List ℕ → Cutting → Type 0
Cut text (into ps) = (q : Place) × Reads start text ps q []
Cut text (stuck q) = (ps : List Found) × (rest : List ℕ) × Reads start text ps q rest × NoPiece rest
