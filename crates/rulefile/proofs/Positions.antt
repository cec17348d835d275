-- Where the first element stands that passes a test.
use Rattle.std.proofs.Common.{◌≡◌, ℕ, suc, ◌+◌, ◌<◌, Bool, true, false, cond, not, ltb, List, [], ◌∷◌, map, length, Some, None, Option}
use Rattle.std.proofs.Common.{sym, refl, ap, ◌∙◌, arith}
use Rattle.std.specs.Prelude.{position}
use Rattle.std.specs.List.{position_from}
use Rattle.std.specs.Option.{option_map}
use Rattle.std.proofs.lemmas.List.{length-map}
use Rattle.std.proofs.lemmas.List.Sums.{prefix_len-le-length}
use Rattle.std.proofs.lemmas.Bool.{ltb-true, ltb-false, lt-ltb, le-ltb}
use Rattle.std.proofs.lemmas.Bool.Decides.{nat_tests}
use Rattle.std.proofs.lemmas.Option.{cond_some}
use Rattle.grammar.specs.Model.{Terminal, first_with, later}
use Rattle.rulefile.specs.Places.{place}

-- one that is there
pub at_place : {X : Type 0} (test : X → Bool) (xs : List X) (k : ℕ) → position test xs ≡ Some k
    → (k ≡ place test xs) × (k < length xs)
at_place test xs k e =
    let h = cond_some (ltb (place test xs) (length xs)) (place test xs) k e in
    let i : place test xs < length xs = ltb-true (place test xs) (length xs) h.0 in
    (sym h.1, omega (arith, h.1, i))

-- none that is there
cond_none : (b : Bool) (n : ℕ) → cond b (Some n) None ≡ None → b ≡ false
cond_none true n e = absurd cc
cond_none false n e = refl

pub no_place : {X : Type 0} (test : X → Bool) (xs : List X) → position test xs ≡ None → place test xs ≡ length xs
no_place test xs e =
    let h = ltb-false (place test xs) (length xs) (cond_none (ltb (place test xs) (length xs)) (place test xs) e) in
    let i = prefix_len-le-length (λ x. not (test x)) xs in
    omega (arith, h, i)

pub place-map : {X Y : Type 0} (f : X → Y) (test : Y → Bool) (xs : List X) → place test (map f xs) ≡ place (λ x. test (f x)) xs
place-map f test [] = refl
place-map f test (x ∷ xs) = ap (λ (n : ℕ). cond (not (test (f x))) (1 + n) 0) (place-map f test xs)

-- the same from a first number on
from-step : (b : Bool) (p l n : ℕ) → cond (ltb (cond (not b) (1 + p) 0) (suc l)) (Some (n + cond (not b) (1 + p) 0)) None
    ≡ cond b (Some n) (cond (ltb p l) (Some (n + 1 + p)) None)
from-step true p l n = grind (arith, nat_tests)
from-step false p l n = grind (arith, nat_tests)

pub from_number : {X : Type 0} (test : X → Bool) (n : ℕ) (xs : List X)
    → cond (ltb (place test xs) (length xs)) (Some (n + place test xs)) None ≡ position_from test n xs
from_number test n [] = refl
from_number test n (x ∷ xs) =
    from-step (test x) (place test xs) (length xs) n
    ∙ ap (λ (o : Option ℕ). cond (test x) (Some n) o) (from_number test (n + 1) xs)

from_found : {X : Type 0} (test : X → Bool) (n : ℕ) (xs : List X) (k : ℕ) → position test xs ≡ Some k
    → Some (k + n) ≡ position_from test n xs
from_found test n xs k e =
    let h = at_place test xs k e in
    let i : k + n ≡ n + place test xs = omega (arith, h.0) in
    let t : ltb (place test xs) (length xs) ≡ true = lt-ltb (place test xs) (length xs) (omega (arith, h.0, h.1)) in
    ap Some i ∙ sym (ap (λ b. cond b (Some (n + place test xs)) None) t) ∙ from_number test n xs

from_none : {X : Type 0} (test : X → Bool) (n : ℕ) (xs : List X) → position test xs ≡ None → None ≡ position_from test n xs
from_none test n xs e =
    let h = no_place test xs e in
    let t : ltb (place test xs) (length xs) ≡ false = le-ltb (place test xs) (length xs) (omega (arith, h)) in
    sym (ap (λ b. cond b (Some (n + place test xs)) None) t) ∙ from_number test n xs

pub numbered_from : {X : Type 0} (test : X → Bool) (n : ℕ) (xs : List X) (o : Option ℕ) → position test xs ≡ o
    → option_map (λ k. k + n) o ≡ position_from test n xs
numbered_from test n xs None e = from_none test n xs e
numbered_from test n xs (Some k) e = from_found test n xs k e

-- the first terminal with a test
first-step : (b : Bool) (p l : ℕ) → cond (ltb (cond (not b) (1 + p) 0) (suc l)) (Some (cond (not b) (1 + p) 0)) None
    ≡ cond b (Some 0) (later (cond (ltb p l) (Some p) None))
first-step true p l = grind (arith, nat_tests)
first-step false p l = grind (arith, nat_tests)

pub first_is : (test : Terminal → Bool) (ts : List Terminal) → position test ts ≡ first_with test ts
first_is test [] = refl
first_is test (t ∷ ts) =
    first-step (test t) (place test ts) (length ts) ∙ ap (λ (o : Option ℕ). cond (test t) (Some 0) (later o)) (first_is test ts)

pub position-map : {X Y : Type 0} (f : X → Y) (test : Y → Bool) (xs : List X)
    → position (λ x. test (f x)) xs ≡ position test (map f xs)
position-map f test xs =
    ap (λ (n : ℕ). cond (ltb n (length xs)) (Some n) None) (sym (place-map f test xs))
    ∙ ap (λ (n : ℕ). cond (ltb (place test (map f xs)) n) (Some (place test (map f xs))) None) (sym (length-map xs f))

pub no_test : (ts : List Terminal) → None ≡ first_with (λ t. false) ts
no_test [] = refl
no_test (t ∷ ts) = ap later (no_test ts)

pub first_among : {X : Type 0} (f : X → Terminal) (test : Terminal → Bool) (xs : List X)
    → position (λ x. test (f x)) xs ≡ first_with test (map f xs)
first_among f test xs = position-map f test xs ∙ first_is test (map f xs)
