-- Numbers stay as more elements come.
use Rattle.std.specs.Prelude.{◌≡◌, ℕ, ◌+◌, ◌<◌, ◌≤◌, Bool, true, false, cond, not, List, [], ◌∷◌, ◌++◌, length, refl}
use Rattle.std.proofs.Common.{sym, ap, ◌∙◌, inl, inr, arith}
use Rattle.std.proofs.lemmas.List.{append_assoc, append-nil, length-append, length_push}
use Rattle.std.proofs.lemmas.Bool.{cases_lt}
use Rattle.rulefile.specs.Places.{place, with_new, gathered}
use Rattle.rulefile.specs.Growing.{with_known, with_fresh}

-- what is found is found at the same place in a longer list
cond_first : (b : Bool) (n m k : ℕ) → cond (not b) (1 + n) 0 < 1 + k → (n < k → m ≡ n) → cond (not b) (1 + m) 0 ≡ cond (not b) (1 + n) 0
cond_first true n m k h e = refl
cond_first false n m k h e = omega (arith, e (omega arith))

pub place-front : {X : Type 0} (test : X → Bool) (xs ys : List X) → place test xs < length xs → place test (xs ++ ys) ≡ place test xs
place-front test [] ys h = absurd (omega arith)
place-front test (x ∷ xs) ys h =
    cond_first (test x) (place test xs) (place test (xs ++ ys)) (length xs) (omega arith) (place-front test xs ys)

-- what passes behind all others has the next number
cond_next : (b : Bool) (n m k : ℕ) → cond (not b) (1 + n) 0 ≡ 1 + k → (n ≡ k → m ≡ k) → cond (not b) (1 + m) 0 ≡ 1 + k
cond_next true n m k h e = absurd (omega arith)
cond_next false n m k h e = omega (arith, e (omega arith))

last-here : (b : Bool) → b ≡ true → cond (not b) (1 + 0) 0 ≡ 0
last-here b e = ap (λ c. cond (not c) (1 + 0) 0) e

pub place-last : {X : Type 0} (test : X → Bool) (xs : List X) (x : X) → test x ≡ true → place test xs ≡ length xs
    → place test (xs ++ x ∷ []) ≡ length xs
place-last test [] x t h = last-here (test x) t
place-last test (y ∷ ys) x t h =
    let k = cond_next (test y) (place test ys) (place test (ys ++ x ∷ [])) (length ys) (omega (arith, h)) (place-last test ys x t) in
    omega (arith, k)

module _ {X : Type 0} (like : X → X → Bool) where
  pub gathered-append : (xs ys zs : List X) → gathered like xs (ys ++ zs) ≡ gathered like (gathered like xs ys) zs
  gathered-append xs [] zs = refl
  gathered-append xs (y ∷ ys) zs = gathered-append (with_new like xs y) ys zs

  -- a list only grows at its end
  pub new_extends : (xs : List X) (y : X) → (more : List X) × (with_new like xs y ≡ xs ++ more)
  new_extends xs y = elim (cases_lt (place (like y) xs) (length xs)) [
    | inl h ↦ ([], with_known like xs y h ∙ sym (append-nil xs))
    | inr h ↦ (y ∷ [], with_fresh like xs y h)
  ]

  pub extends : (xs ys : List X) → (more : List X) × (gathered like xs ys ≡ xs ++ more)
  extends xs [] = ([], sym (append-nil xs))
  extends xs (y ∷ ys) =
      let a = new_extends xs y in
      let b = extends (with_new like xs y) ys in
      (a.0 ++ b.0, b.1 ∙ ap (λ (zs : List X). zs ++ b.0) a.1 ∙ append_assoc xs a.0 b.0)

  pub grows : (xs ys : List X) → length xs ≤ length (gathered like xs ys)
  grows xs ys =
      let e = extends xs ys in
      let l = ap (λ (zs : List X). length zs) e.1 in
      omega (arith, l, length-append xs e.0)

  -- an element that is like itself has its number once it is there
  pub found_new : (xs : List X) (x : X) → like x x ≡ true → place (like x) xs ≤ length xs
      → (place (like x) (with_new like xs x) ≡ place (like x) xs) × (place (like x) xs < length (with_new like xs x))
  found_new xs x t within = elim (cases_lt (place (like x) xs) (length xs)) [
    | inl h ↦
        let w = with_known like xs x h in
        let l = ap (λ (zs : List X). length zs) w in
        (ap (λ (zs : List X). place (like x) zs) w, omega (arith, l, h))
    | inr h ↦
        let w = with_fresh like xs x h in
        let l = ap (λ (zs : List X). length zs) w in
        let p = place-last (like x) xs x t (omega (arith, h, within)) in
        (ap (λ (zs : List X). place (like x) zs) w ∙ omega (arith, p, h, within), omega (arith, l, length_push xs x, within))
  ]

  pub settled : (xs : List X) (x : X) (ys : List X) → like x x ≡ true → place (like x) xs ≤ length xs
      → (place (like x) xs ≡ place (like x) (gathered like (with_new like xs x) ys))
      × (place (like x) xs < length (gathered like (with_new like xs x) ys))
  settled xs x ys t within =
      let f = found_new xs x t within in
      let e = extends (with_new like xs x) ys in
      let p = place-front (like x) (with_new like xs x) e.0 (omega (arith, f.0, f.1)) in
      let g = grows (with_new like xs x) ys in
      (sym (ap (λ (zs : List X). place (like x) zs) e.1 ∙ p ∙ f.0), omega (arith, g, f.1))
