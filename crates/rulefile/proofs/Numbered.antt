-- Elements that get their numbers, seen by what they stand for.
use Rattle.std.proofs.Common.{◌≡◌, ℕ, Bool, true, false, cond, ltb, List, [], ◌∷◌, ◌++◌, map, length, Some, None, Option, Ok, Err, Result}
use Rattle.std.proofs.Common.{OnOk, OnErr, sym, refl, ap, ◌∙◌, arith}
use Rattle.std.proofs.lemmas.List.{length-map, length_push, map_push}
use Rattle.std.specs.Prelude.{position}
use Rattle.std.specs.Result.{result_ok}
use Rattle.rulefile.specs.Places.{place, with_new, Numbers}
use Rattle.rulefile.specs.Growing.{with_fresh}
use Rattle.rulefile.proofs.Positions.{no_place, place-map}

-- what a call says that gave a value, or none, by what was made of it
pub taken : {X E : Type 0} {P : Type 0} (r : Result X E) (x : X) → Some x ≡ result_ok r → OnOk r P → P
taken (Ok y) x e p = p
taken (Err f) x e p = absurd cc

pub refused : {X E : Type 0} {P : Type 0} (r : Result X E) → None ≡ result_ok r → OnErr r P → P
refused (Ok y) e p = absurd cc
refused (Err f) e p = p

module _ {X Y : Type 0} (f : X → Y) (like : Y → Y → Bool) (own : X → X → Bool) (same : (x y : X) → own x y ≡ like (f x) (f y)) where
  place-seen : (xs : List X) (x : X) → place (own x) xs ≡ place (like (f x)) (map f xs)
  place-seen xs x = ap (λ (test : X → Bool). place test xs) (λ i y. same x y i) ∙ sym (place-map f (like (f x)) xs)

  push-seen : (xs : List X) (x : X) (b : Bool) → map f (cond b xs (xs ++ x ∷ [])) ≡ cond b (map f xs) (map f xs ++ f x ∷ [])
  push-seen xs x true = refl
  push-seen xs x false = map_push f xs x

  with_new-seen : (xs : List X) (x : X) → map f (with_new own xs x) ≡ with_new like (map f xs) (f x)
  with_new-seen xs x =
      push-seen xs x (ltb (place (own x) xs) (length xs))
      ∙ ap (λ (n : ℕ). cond (ltb n (length xs)) (map f xs) (map f xs ++ f x ∷ [])) (place-seen xs x)
      ∙ ap (λ (m : ℕ). cond (ltb (place (like (f x)) (map f xs)) m) (map f xs) (map f xs ++ f x ∷ [])) (sym (length-map xs f))

  pub numbers-seen : (limit : ℕ) (xs : List X) (x : X) (r : Option ℕ) (ys : List X) → Numbers own limit xs x r ys
      → Numbers like limit (map f xs) (f x) r (map f ys)
  numbers-seen limit xs x (Some k) ys h = (h.0 ∙ place-seen xs x, ap (λ (zs : List X). map f zs) h.1 ∙ with_new-seen xs x)
  numbers-seen limit xs x None ys h =
      let l = length-map (with_new own xs x) f in
      let e = ap (λ (zs : List Y). length zs) (with_new-seen xs x) in
      omega (arith, h, l, e)

module _ {X : Type 0} (like : X → X → Bool) (limit : ℕ) (xs : List X) (x : X) where
  -- one that is new
  pub number-new : (ys : List X) → position (like x) xs ≡ None → ys ≡ xs ++ x ∷ [] → Numbers like limit xs x (Some (length xs)) ys
  number-new ys e h =
      let p = no_place (like x) xs e in
      (sym p, h ∙ sym (with_fresh like xs x (omega (arith, p))))

  pub number-full : (ys : List X) → position (like x) xs ≡ None → length xs ≡ limit → Numbers like limit xs x None ys
  number-full ys e h =
      let p = no_place (like x) xs e in
      let w = ap (λ (zs : List X). length zs) (with_fresh like xs x (omega (arith, p))) in
      let l = length_push xs x in
      omega (arith, h, w, l)
