use Rattle.std.proofs.Common.{◌≡◌, ℕ, zero, suc, ◌+◌, ◌-◌, ◌*◌, ◌/◌, ◌%◌, ◌<◌, ◌≤◌, sym, refl, ap, ◌∙◌, ⊎_elim, suc-mul, mul_comm}
use Rattle.std.proofs.Common.{mul-suc, add-one, arith}
use native.Mathlib.Nat.{mul-sub}
use Rattle.std.proofs.lemmas.Nat.{mul-add-lt, div-mul-add, mod-mul-add}
use Rattle.std.proofs.lemmas.Bool.{cases_lt, cases_order}
use Rattle.chart.specs.Place.{tri, cell_place}

-- j squared
pub tri_square : (j : ℕ) → 2 * tri j + j ≡ j * j
unfolding tri
tri_square zero = refl
tri_square (suc m) = omega (arith, tri_square m, suc-mul m (suc m), mul-suc m m)

pub tri-is : (j : ℕ) → 0 < j → j * (j - 1) / 2 ≡ tri j
tri-is j h = omega (arith, tri_square j, mul-sub j j 1)

-- where a number stands, as it is reckoned
pub place_is : (n m a i j : ℕ) → n ≡ m → 0 < j → (j * (j - 1) / 2 + i) * n + a ≡ cell_place m a i j
unfolding cell_place
place_is n m a i j e h = rw e (ap (λ (x : ℕ). (x + i) * m + a) (tri-is j h))

pub tri_suc : (j : ℕ) → tri (j + 1) ≡ tri j + j
unfolding tri
tri_suc j = rw add-one refl

same : (j k : ℕ) → j ≤ k → k ≤ j → j ≡ k
same j k h l = omega arith

pub tri_mono : (j k : ℕ) → j ≤ k → tri j ≤ tri k
unfolding tri
tri_mono j zero h = let e : j ≡ zero = omega arith in rw e (omega arith)
tri_mono j (suc k) h =
    ⊎_elim (λ p. let q : tri j ≤ tri k = tri_mono j k (omega arith) in omega arith) (λ p. omega (arith, ap tri (same j (suc k) h p)))
    (cases_lt j (suc k))

-- one stretch has one row
pub row_apart : (i j k m : ℕ) → i < j → k < m → tri j + i ≡ tri m + k → (i ≡ k) × (j ≡ m)
row_apart i j k m h l e =
    ⊎_elim (λ p. let q : j ≡ m = p in (omega (arith, ap tri q), q))
    (⊎_elim (λ p. absurd (omega (arith, tri_mono (j + 1) m (omega arith), tri_suc j)))
    (λ p. absurd (omega (arith, tri_mono (m + 1) j (omega arith), tri_suc m)))) (cases_order j m)

pub place_lt : (n a i j p : ℕ) → a < n → i < j → j ≤ p → cell_place n a i j < tri (p + 1) * n
unfolding cell_place
place_lt n a i j p h l k =
    let q : tri j + i < tri (p + 1) = omega (arith, tri_mono (j + 1) (p + 1) (omega arith), tri_suc j) in
    omega (arith, mul-add-lt (tri j + i) n a (tri (p + 1)) q h, mul_comm n (tri (p + 1)))

pub place_apart : (n a i j b k m : ℕ) → a < n → b < n → i < j → k < m → cell_place n a i j ≡ cell_place n b k m
    → (a ≡ b) × (i ≡ k) × (j ≡ m)
unfolding cell_place
place_apart n a i j b k m h l p q e =
    let x : a ≡ b = sym (mod-mul-add (tri j + i) n a h) ∙ ap (λ z. z % n) e ∙ mod-mul-add (tri m + k) n b l in
    let y : tri j + i ≡ tri m + k = sym (div-mul-add (tri j + i) n a h) ∙ ap (λ z. z / n) e ∙ div-mul-add (tri m + k) n b l in
    let z = row_apart i j k m p q y in
    (x, z.0, z.1)
