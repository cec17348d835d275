-- The bits of a number: of a union, an intersection, a power of two, and a run of ones.
use Rattle.std.proofs.Common.{◌≡◌, ℕ, suc, ◌+◌, ◌-◌, ◌*◌, ◌/◌, ◌%◌, ◌^◌, ◌<◌, ◌≤◌, ◌⊎◌, Bool, true, false, ◌==◌, MatchBool, refl, subst}
use Rattle.std.proofs.Common.{inl, inr, ⊎_elim, pow-suc, arith, pow_pos, pow_mono, pow-add}
use native.Mathlib.Nat.{div-eq_of_lt}
use lib.Count.{leading_top}
use lib.Bits.{bit_and, bit_or, and_step, or_step, and_shr, or_shr}
use lib.Pow.{shl-shr, shr_le, ones_split, ones_lt}
use Rattle.std.proofs.lemmas.Nat.{shr_high}
use Rattle.std.proofs.lemmas.Bool.{cases_lt}
use Rattle.columns.specs.Mask.{Bit}

pub bit_or_l : (a b c : ℕ) → Bit a c → Bit (bit_or a b) c
unfolding Bit
bit_or_l a b c h = rw or_shr (omega (arith, or_step (a / 2 ^ c) (b / 2 ^ c)))

pub bit_or_r : (a b c : ℕ) → Bit b c → Bit (bit_or a b) c
unfolding Bit
bit_or_r a b c h = rw or_shr (omega (arith, or_step (a / 2 ^ c) (b / 2 ^ c)))

pub bit-or : (a b c : ℕ) → Bit (bit_or a b) c → Bit a c ⊎ Bit b c
unfolding Bit
bit-or a b c h =
    let k : (bit_or (a / 2 ^ c) (b / 2 ^ c)) % 2 ≡ 1 = rw or_shr at h in
    ⊎_elim (λ p. inr (omega (arith, or_step (a / 2 ^ c) (b / 2 ^ c)))) (λ p. inl (omega arith)) (cases_lt ((a / 2 ^ c) % 2) 1)

pub bit-and : (a b c : ℕ) → Bit (bit_and a b) c → Bit a c × Bit b c
unfolding Bit
bit-and a b c h =
    let k : (bit_and (a / 2 ^ c) (b / 2 ^ c)) % 2 ≡ 1 = rw and_shr at h in
    omega (arith, and_step (a / 2 ^ c) (b / 2 ^ c))

pub and_bit : (a b c : ℕ) → Bit a c → Bit b c → Bit (bit_and a b) c
unfolding Bit
and_bit a b c h k = rw and_shr (omega (arith, and_step (a / 2 ^ c) (b / 2 ^ c)))

pub bit_zero : (c : ℕ) → Bit 0 c → ⊥
unfolding Bit
bit_zero c h = omega (arith, shr_le 0 c)

-- a set bit stands no higher than the number reaches
pub bit_lt : (m c k : ℕ) → m < 2 ^ k → Bit m c → c < k
unfolding Bit
bit_lt m c k h b =
    ⊎_elim (λ p. p) (λ p. let z : m / 2 ^ c ≡ 0 = div-eq_of_lt (omega (arith, pow_mono p)) in omega arith) (cases_lt c k)

-- the highest bit
pub bit_top : (m k : ℕ) → 2 ^ k ≤ m → m < 2 * 2 ^ k → Bit m k
unfolding Bit
bit_top m k h l =
    let e : 1 * 2 ^ k + (m - 2 ^ k) ≡ m = omega arith in
    let q : m / 2 ^ k ≡ 1 = rw e at (shr_high 1 k (m - 2 ^ k) (omega arith)) in
    omega arith

pub top_bit : (m k c : ℕ) → m < 2 * 2 ^ k → Bit m c → c ≤ k
top_bit m k c l b = omega (arith, bit_lt m c (k + 1) (omega (arith, pow-add 2 k 1)) b)

ones_at : (t c : ℕ) → Bit (2 ^ ((t + 1) + c) - 1) c
unfolding Bit
ones_at t c =
    let q : (2 ^ ((t + 1) + c) - 1) / 2 ^ c ≡ 2 ^ (t + 1) - 1 =
    rw (ones_split (t + 1) c) (shr_high (2 ^ (t + 1) - 1) c (2 ^ c - 1) (ones_lt c)) in
    omega (arith, ones_split t 1)

pub bit_ones : (k c : ℕ) → c < k → Bit (2 ^ k - 1) c
bit_ones k c h = let e : (k - suc c + 1) + c ≡ k = omega arith in rw e at (ones_at (k - suc c) c)

pub ones_bit : (k c : ℕ) → Bit (2 ^ k - 1) c → c < k
ones_bit k c b = bit_lt (2 ^ k - 1) c k (ones_lt k) b

pub pow_bit : (k : ℕ) → Bit (2 ^ k) k
pow_bit k = bit_top (2 ^ k) k (omega arith) (omega (arith, pow_pos k))

pow_at : (t c : ℕ) → Bit (2 ^ ((t + 1) + c)) c → ⊥
unfolding Bit
pow_at t c b =
    let q : 2 ^ ((t + 1) + c) / 2 ^ c ≡ 2 ^ (t + 1) = rw (pow-add 2 (t + 1) c) (shl-shr (2 ^ (t + 1)) c) in
    omega (arith, pow-add 2 t 1)

pub bit_pow : (k c : ℕ) → Bit (2 ^ k) c → c ≡ k
bit_pow k c b =
    let le : c ≤ k = top_bit (2 ^ k) k c (omega (arith, pow_pos k)) b in
    ⊎_elim (λ p. let e : k ≡ (k - suc c + 1) + c = omega arith in absurd (pow_at (k - suc c) c (subst (λ (x : ℕ). Bit (2 ^ x) c) e b)))
    (λ p. omega arith) (cases_lt c k)

pub some_bit : (m : ℕ) → 0 < m → m < 2 ^ 64 → (c : ℕ) × Bit m c
some_bit m p h = let t = leading_top 64 m p h in (t.0, bit_top m t.0 t.2 (omega (arith, pow-suc 2 t.0)))

-- whether a number has a bit is whether it is not 0
pub some_told : (m : ℕ) → m < 2 ^ 64 → MatchBool (m == 0) ((c : ℕ) → Bit m c → ⊥) ((c : ℕ) × Bit m c)
some_told m h = go (m == 0) refl
  where
    go : (b : Bool) → (m == 0) ≡ b → MatchBool b ((c : ℕ) → Bit m c → ⊥) ((c : ℕ) × Bit m c)
    go true e = λ c x. let z : m ≡ 0 = grind arith in bit_zero c (subst (λ (n : ℕ). Bit n c) z x)
    go false e = some_bit m (grind arith) h
