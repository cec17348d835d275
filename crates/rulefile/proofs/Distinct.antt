-- Lists without two elements alike.
use Rattle.std.proofs.Common.{inl, inr, sym, subst, ◌≡◌, ℕ, suc, ◌+◌, ◌≤◌, Bool, true, false, cond, not, List, [], ◌∷◌, ◌++◌, length}
use Rattle.std.proofs.Common.{refl, arith}
use Rattle.std.specs.List.{list_all}
use Rattle.std.proofs.lemmas.Bool.{and_from, and_parts}
use Rattle.std.proofs.lemmas.List.Sums.{prefix_len-le-length}
use Rattle.std.proofs.lemmas.Bool.{cases_lt}
use Rattle.rulefile.specs.Denoted.{is_distinct}
use Rattle.rulefile.specs.Growing.{with_known, with_fresh}
use Rattle.rulefile.specs.Places.{place, with_new}

all_pass_push : {Y : Type 0} (p : Y → Bool) (ys : List Y) (y : Y) → list_all p ys ≡ true → p y ≡ true → list_all p (ys ++ y ∷ []) ≡ true
all_pass_push p [] y h e = and_from (p y) true e refl
all_pass_push p (z ∷ zs) y h e =
    let k = and_parts (p z) (list_all p zs) h in
    and_from (p z) (list_all p (zs ++ y ∷ [])) k.0 (all_pass_push p zs y k.1 e)

-- the first element fails the test, and so do the others
none_first : (b : Bool) (n m : ℕ) → n ≤ m → cond (not b) (1 + n) 0 ≡ suc m → (not b ≡ true) × (n ≡ m)
none_first true n m h e = absurd (omega (arith, e))
none_first false n m h e = (refl, omega (arith, e))

distinct_push : {Y : Type 0} (like : Y → Y → Bool) (ys : List Y) (y : Y) → is_distinct (λ a b. like b a) ys ≡ true
    → place (like y) ys ≡ length ys → is_distinct (λ a b. like b a) (ys ++ y ∷ []) ≡ true
distinct_push like [] y h e = refl
distinct_push {Y} like (z ∷ zs) y h e =
    let p : Y → Bool = λ b. not (like b z) in
    let d : Y → Y → Bool = λ a b. like b a in
    let k = and_parts (list_all p zs) (is_distinct d zs) h in
    let s = none_first (like y z) (place (like y) zs) (length zs) (prefix_len-le-length (λ x. not (like y x)) zs) e in
    and_from (list_all p (zs ++ y ∷ [])) (is_distinct d (zs ++ y ∷ []))
    (all_pass_push p zs y k.0 s.0)
    (distinct_push like zs y k.1 s.1)

pub distinct_new : {Y : Type 0} (like : Y → Y → Bool) (ys : List Y) (y : Y) → is_distinct (λ a b. like b a) ys ≡ true
    → is_distinct (λ a b. like b a) (with_new like ys y) ≡ true
distinct_new {Y} like ys y h = elim (cases_lt (place (like y) ys) (length ys)) [
  | inl k ↦ subst (λ (zs : List Y). is_distinct (λ a b. like b a) zs ≡ true) (sym (with_known like ys y k)) h
  | inr k ↦
      let p = prefix_len-le-length (λ x. not (like y x)) ys in
      let e : place (like y) ys ≡ length ys = omega (arith, k, p) in
      subst (λ (zs : List Y). is_distinct (λ a b. like b a) zs ≡ true) (sym (with_fresh like ys y k)) (distinct_push like ys y h e)
]
