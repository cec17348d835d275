-- The terminals of the pieces, one after another.
use Rattle.std.proofs.Common.{◌≡◌, ℕ, suc, false, List, [], ◌∷◌, ◌++◌, length, take, drop, Some, None, Option, refl, ap, ◌∙◌, arith}
use Rattle.grammar.specs.Model.{Model, terminal_of}
use Rattle.tree.specs.declared.piece.PieceRecord.{PieceRecord}
use Rattle.tree.specs.Parts.{parts}
use Rattle.tree.specs.Terminals.{before, terminals_of}

-- what a list of pieces has past its end
abbrev pub blank : PieceRecord
blank = record { length = 0; terminal = 0; column = 0; opens_line = false }

-- behind those that are there already
abbrev pub behind : List ℕ → Option (List ℕ) → Option (List ℕ)
behind xs None = None
behind xs (Some ys) = Some (xs ++ ys)

behind-none : (o : Option (List ℕ)) → behind [] o ≡ o
behind-none None = refl
behind-none (Some ys) = refl

-- the terminals of pieces with their bytes
abbrev pub naming : Model → List (PieceRecord × List ℕ) → Option (List ℕ)
naming G [] = Some []
naming G (x ∷ xs) = before (terminal_of G x.1) (naming G xs)

pub naming_parts : (G : Model) (bytes : List ℕ) (ps : List PieceRecord) → naming G (parts bytes ps) ≡ terminals_of G bytes ps
naming_parts G bytes [] = refl
naming_parts G bytes (p ∷ ps) = ap (before (terminal_of G (take p.length bytes))) (naming_parts G (drop p.length bytes) ps)

pub parts-long : (bytes : List ℕ) (ps : List PieceRecord) → length (parts bytes ps) ≡ length ps
parts-long bytes [] = refl
parts-long bytes (p ∷ ps) = ap suc (parts-long (drop p.length bytes) ps)

module _ (G : Model) (list : List ℕ) (left : List (PieceRecord × List ℕ)) where
  pub named_first : (bytes : List ℕ) (ps : List PieceRecord) → list ≡ [] → left ≡ parts bytes ps
      → behind list (naming G left) ≡ terminals_of G bytes ps
  named_first bytes ps empty all =
      ap (λ (ts : List ℕ). behind ts (naming G left)) empty ∙ behind-none (naming G left)
      ∙ ap (naming G) all ∙ naming_parts G bytes ps

-- the first terminal and the others
pub first_named : (o : Option ℕ) (rest : Option (List ℕ)) (ts : List ℕ) → before o rest ≡ Some ts
    → (t : ℕ) × (us : List ℕ) × (o ≡ Some t) × (rest ≡ Some us) × (ts ≡ t ∷ us)
first_named None rest ts e = cc
first_named (Some t) None ts e = cc
first_named (Some t) (Some us) ts e = (t, us, refl, refl, cc)

-- each piece has one terminal
pub named_long : (G : Model) (bytes : List ℕ) (ps : List PieceRecord) (ts : List ℕ) → terminals_of G bytes ps ≡ Some ts
    → length ts ≡ length ps
named_long G bytes [] ts e = let n : ts ≡ [] = cc in ap length n
named_long G bytes (p ∷ ps) ts e =
    let n = first_named (terminal_of G (take p.length bytes)) (terminals_of G (drop p.length bytes) ps) ts e in
    let l = named_long G (drop p.length bytes) ps n.1 n.3 in
    let m = ap length n.4 in
    omega arith
