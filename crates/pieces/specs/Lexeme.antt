-- The piece at the front of some bytes.
--   Front    the class and length of the piece that begins them, or none where no piece does
--   Quoted   the length of the quote that these bytes go on with behind its opening byte, or none where it is not closed
use Rattle.std.specs.Prelude.{◌≡◌, ℕ, ◌<◌, ◌≤◌, List, ◌∷◌, ◌++◌, length, take, drop, Some, None, Option}
use Rattle.pieces.specs.declared.piece.Class.{Class}
use Rattle.pieces.specs.declared.piece.Class.TheVariants.{Quote}
use Rattle.pieces.specs.declared.lexeme.Lexeme.{Lexeme}
use Rattle.pieces.specs.Pieces.{Forms}

-- the first n bytes are a piece of class c
pub record Fronts (bytes : List ℕ) (c : Class) (n : ℕ) : Type 0 where
  pub some : 0 < n
  pub within : n ≤ length bytes
  pub forms : Forms c (take n bytes) (drop n bytes)

abbrev pub Front : List ℕ → Option Lexeme → Type 0
Front bytes None = (c : Class) (w rest : List ℕ) → bytes ≡ w ++ rest → Forms c w rest → ⊥
Front bytes (Some x) = Fronts bytes x.class x.length

abbrev pub Quoted : List ℕ → Option ℕ → Type 0
Quoted inside None = (w rest : List ℕ) → 34 ∷ inside ≡ w ++ rest → Forms Quote w rest → ⊥
Quoted inside (Some n) = Fronts (34 ∷ inside) Quote n
