-- Longest runs and quotes at the front of some bytes.
use Rattle.std.proofs.Common.{◌≡◌, ℕ, suc, Bool, true, false, List, [], ◌∷◌, ◌++◌, take, drop, refl, one-add, arith}
use Rattle.std.specs.List.{prefix_len}
use Rattle.std.proofs.lemmas.List.Sums.{prefix_len-le-length}
use Rattle.pieces.specs.declared.piece.Class.TheVariants.{Name, Number}
use Rattle.pieces.specs.Kinds.{letter, digit, goes_on}
use Rattle.pieces.specs.Pieces.{Passes, Stops}
use Rattle.pieces.specs.Lexeme.{Fronts}
use Rattle.pieces.proofs.Bytes.{letter-goes-on}

-- a test passes or fails
data Tested (test : ℕ → Bool) (b : ℕ) : Type 0 where
  passes : test b ≡ true → Tested test b
  fails : test b ≡ false → Tested test b

tested : (test : ℕ → Bool) (b : ℕ) → Tested test b
tested test b = elim (test b) as (λ v. test b ≡ v → Tested test b) [ true ↦ passes | false ↦ fails ] refl

-- true is not false
clash : {b : Bool} → b ≡ true → b ≡ false → ⊥
clash p q = let z : true ≡ false = cc in let w : ◌≡◌ {A = ℕ} 0 1 = cc in omega arith

-- the longest run passes, and stops
pub run_passes : (test : ℕ → Bool) (s : List ℕ) → Passes test (take (prefix_len test s) s)
run_passes test [] = tt
run_passes test (b ∷ s) =
    elim (tested test b) [ passes e ↦ rw (e, one-add) (e, run_passes test s) | fails e ↦ rw e tt ]

pub run_stops : (test : ℕ → Bool) (s : List ℕ) → Stops test (drop (prefix_len test s) s)
run_stops test [] = tt
run_stops test (b ∷ s) =
    elim (tested test b) [ passes e ↦ rw (e, one-add) (run_stops test s) | fails e ↦ rw e e ]

-- a run that passes and stops is the only one
pub run_one : (test : ℕ → Bool) (v s w t : List ℕ) → Passes test v → Stops test s → Passes test w → Stops test t → v ++ s ≡ w ++ t
    → (v ≡ w) × (s ≡ t)
run_one test [] s [] t pv ss pw st e = (refl, e)
run_one test [] [] (y ∷ w) t pv ss pw st e = let w : ◌≡◌ {A = ℕ} 0 1 = cc in absurd (omega arith)
run_one test [] (x ∷ s) (y ∷ w) t pv ss pw st e = let h : x ≡ y = cc in absurd (clash pw.0 (rw h at ss))
run_one test (x ∷ v) s [] [] pv ss pw st e = let w : ◌≡◌ {A = ℕ} 0 1 = cc in absurd (omega arith)
run_one test (x ∷ v) s [] (y ∷ t) pv ss pw st e = let h : y ≡ x = cc in absurd (clash pv.0 (rw h at st))
run_one test (x ∷ v) s (y ∷ w) t pv ss pw st e =
    let h : x ≡ y = cc in
    let f : v ++ s ≡ w ++ t = cc in
    let r = run_one test v s w t pv.1 ss pw.1 st f in
    let p = r.0 in
    (cc, r.1)

-- a name, a number or a sign begins where its first byte is one's
pub name-front : (b : ℕ) (s : List ℕ) → letter b ≡ true → Fronts (b ∷ s) Name (prefix_len goes_on (b ∷ s))
name-front b s e =
    let g : goes_on b ≡ true = letter-goes-on b e in
    let n : prefix_len goes_on (b ∷ s) ≡ suc (prefix_len goes_on s) = rw (g, one-add) in
    let l = prefix_len-le-length goes_on (b ∷ s) in
    record { some = omega arith; within = l; forms = (rw n e, run_passes goes_on (b ∷ s), run_stops goes_on (b ∷ s)) }

pub number-front : (b : ℕ) (s : List ℕ) → digit b ≡ true → Fronts (b ∷ s) Number (prefix_len digit (b ∷ s))
number-front b s e =
    let n : prefix_len digit (b ∷ s) ≡ suc (prefix_len digit s) = rw (e, one-add) in
    let l = prefix_len-le-length digit (b ∷ s) in
    record { some = omega arith; within = l; forms = (rw n e, run_passes digit (b ∷ s), run_stops digit (b ∷ s)) }
