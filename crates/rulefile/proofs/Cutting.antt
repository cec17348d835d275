-- The first part of some bytes, and the others.
use Rattle.std.proofs.Common.{◌≡◌, ℕ, suc, ◌+◌, ◌-◌, ◌<◌, ◌≤◌, Bool, true, false, cond, not, eqb, List, [], ◌∷◌, length, take, drop, Some}
use Rattle.std.proofs.Common.{None, refl, ap, one-add, arith}
use Rattle.std.specs.Prelude.{position}
use Rattle.std.proofs.lemmas.List.{take_rest, length-drop, take_all, drop_all}
use Rattle.rulefile.specs.Parts.{parts, onto, Splits}
use Rattle.rulefile.specs.Places.{place}
use Rattle.rulefile.proofs.Positions.{at_place, no_place}

-- a byte is the separator
abbrev is : ℕ → ℕ → Bool
is separator b = eqb b separator

-- one byte more at the front of what is cut
cut_more : (separator : ℕ) (b : ℕ) (s : List ℕ) (n : ℕ) → (0 < length s → parts separator s ≡ take n s ∷ parts separator (drop (n + 1) s))
    → (length s ≡ 0 → n ≡ 0) → onto b (parts separator s) ≡ take (1 + n) (b ∷ s) ∷ parts separator (drop (1 + n + 1) (b ∷ s))
cut_more separator b [] n h z = let e = z refl in rw e refl
cut_more separator b (x ∷ s) n h z =
    let e = h (omega arith) in
    let f : 1 + n ≡ suc n = one-add n in
    let g : suc n + 1 ≡ suc (n + 1) = omega arith in
    rw (f, g) (ap (onto b) e)

pub cut : (separator : ℕ) (s : List ℕ) → 0 < length s
    → parts separator s ≡ take (place (is separator) s) s ∷ parts separator (drop (place (is separator) s + 1) s)
cut separator [] h = absurd (omega arith)
cut separator (b ∷ s) h =
    let n = place (is separator) s in
    let more = cut_more separator b s n (cut separator s) (no_run separator s) in
    elim (eqb b separator) as (λ v. cond v ([] ∷ parts separator s) (onto b (parts separator s))
    ≡ take (cond (not v) (1 + n) 0) (b ∷ s) ∷ parts separator (drop (cond (not v) (1 + n) 0 + 1) (b ∷ s))) [ true ↦ refl | false ↦ more ]
  where
    no_run : (separator : ℕ) (s : List ℕ) → length s ≡ 0 → place (is separator) s ≡ 0
    no_run separator [] h = refl
    no_run separator (x ∷ s) h = absurd (omega arith)

-- the same as slices have it
pub cut_at : (separator : ℕ) (s : List ℕ) (n : ℕ) → position (λ b. eqb b separator) s ≡ Some n
    → Splits separator s (take n s) (take (length s - (n + 1)) (drop (n + 1) s))
cut_at separator s n e =
    let p = at_place (is separator) s n e in
    let r = take_rest s (n + 1) in
    let d = cut separator s (omega (arith, p.1)) in
    let l = length-drop (n + 1) s in
    (rw (r, p.0) d, rw r (omega (arith, l, p.1)))

pub cut_none : (separator : ℕ) (s : List ℕ) → 0 < length s → position (λ b. eqb b separator) s ≡ None → Splits separator s s []
cut_none separator s some e =
    let p = no_place (is separator) s e in
    let d = cut separator s some in
    let a = take_all (place (is separator) s) s (omega (arith, p)) in
    let b = drop_all (place (is separator) s + 1) s (omega (arith, p)) in
    (rw (a, b) at d, some)

-- there are no more parts than bytes
pub few_parts : (separator : ℕ) (s : List ℕ) → length (parts separator s) ≤ length s
few_parts separator [] = omega arith
few_parts separator (b ∷ s) = few_more separator b s (few_parts separator s)
  where
    few_onto : (b : ℕ) (ps : List (List ℕ)) (n : ℕ) → length ps ≤ n → length (onto b ps) ≤ suc n
    few_onto b [] n h = omega arith
    few_onto b (p ∷ ps) n h = omega arith

    few_more : (separator b : ℕ) (s : List ℕ) → length (parts separator s) ≤ length s → length (parts separator (b ∷ s)) ≤ length (b ∷ s)
    few_more separator b s h =
        elim (eqb b separator) as (λ v. length (cond v ([] ∷ parts separator s) (onto b (parts separator s))) ≤ suc (length s))
        [ true ↦ omega arith | false ↦ few_onto b (parts separator s) (length s) h ]
