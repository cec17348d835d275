-- How many nodes a tree has at most.
use Rattle.std.proofs.Common.{◌≡◌, ℕ, ◌+◌, ◌-◌, ◌*◌, ◌<◌, ◌≤◌, ap, ◌∙◌, mul-le-mul_left, mul-one, mul-add, arith}
use Rattle.chart.specs.Place.{nodes_of}

one_le : (l : ℕ) → 0 < l → 1 ≤ 2 * l - 1
one_le l h = omega arith

pub nodes-some : (n l : ℕ) → 0 < l → n ≤ nodes_of n l
unfolding nodes_of
nodes-some n l h = omega (arith, mul-le-mul_left n (one_le l h), mul-one n)

nodes-sum : (n a b : ℕ) → 0 < a → 0 < b → nodes_of n (a + b) ≡ nodes_of n a + nodes_of n b + n
unfolding nodes_of
nodes-sum n a b h l =
    let e : 2 * (a + b) - 1 ≡ (2 * a - 1) + (2 * b - 1) + 1 = omega arith in
    ap (λ (x : ℕ). n * x) e ∙ mul-add n ((2 * a - 1) + (2 * b - 1)) 1 ∙ ap (λ (x : ℕ). x + n * 1) (mul-add n (2 * a - 1) (2 * b - 1))
    ∙ ap (λ (x : ℕ). (n * (2 * a - 1) + n * (2 * b - 1)) + x) (mul-one n)

pub nodes-cut : (n i k j : ℕ) → i < k → k < j → nodes_of n (j - i) ≡ nodes_of n (k - i) + nodes_of n (j - k) + n
nodes-cut n i k j h l =
    let e : j - i ≡ (k - i) + (j - k) = omega arith in
    ap (nodes_of n) e ∙ nodes-sum n (k - i) (j - k) (omega arith) (omega arith)

pub nodes_mono : (n l m : ℕ) → l ≤ m → nodes_of n l ≤ nodes_of n m
unfolding nodes_of
nodes_mono n l m h = let k : 2 * l - 1 ≤ 2 * m - 1 = omega arith in mul-le-mul_left n k

pub nodes_less : (n l m : ℕ) → 0 < l → l + 1 ≤ m → nodes_of n l + n ≤ nodes_of n m
nodes_less n l m s h =
    let e : m ≡ l + (m - l) = omega arith in
    omega (arith, ap (nodes_of n) e, nodes-sum n l (m - l) s (omega arith))
