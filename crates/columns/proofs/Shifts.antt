-- The bits of a number that is shifted up and cut to a width.
use Rattle.std.proofs.Common.{◌≡◌, ℕ, suc, ◌+◌, ◌-◌, ◌*◌, ◌/◌, ◌%◌, ◌^◌, ◌<◌, ◌≤◌, sym, ap, ◌∙◌, ⊎_elim, mod-lt, mul_assoc, arith}
use Rattle.std.proofs.Common.{pow_pos, pow-add, shr-shr}
use lib.Pow.{shl-shr, field, mod-mod-pow}
use Rattle.std.proofs.lemmas.Bool.{cases_lt}
use Rattle.columns.specs.Mask.{Bit}
use Rattle.columns.proofs.Bits.{bit_lt}

-- the digits above a cut
cut_at : (n t c : ℕ) → (n % 2 ^ ((t + 1) + c) / 2 ^ c) % 2 ≡ (n / 2 ^ c) % 2
cut_at n t c = rw (field n (t + 1) c) (mod-mod-pow (n / 2 ^ c) t 1)

cut : (n w c : ℕ) → c < w → (n % 2 ^ w / 2 ^ c) % 2 ≡ (n / 2 ^ c) % 2
cut n w c h = let e : (w - suc c + 1) + c ≡ w = omega arith in rw e at (cut_at n (w - suc c) c)

-- a cut keeps the bits below the width
pub bit_cut : (n w c : ℕ) → c < w → Bit n c → Bit (n % 2 ^ w) c
unfolding Bit
bit_cut n w c h b = cut n w c h ∙ b

pub cut_bit : (n w c : ℕ) → Bit (n % 2 ^ w) c → (c < w) × Bit n c
unfolding Bit
cut_bit n w c b =
    let h : c < w = bit_lt (n % 2 ^ w) c w (mod-lt n (pow_pos w)) b in
    (h, sym (cut n w c h) ∙ b)

-- a shift moves each bit up
moved : (a k t : ℕ) → a * 2 ^ k / 2 ^ (k + t) ≡ a / 2 ^ t
moved a k t = sym (shr-shr (a * 2 ^ k) k t) ∙ ap (λ x. x / 2 ^ t) (shl-shr a k)

pub bit_shl : (a k c : ℕ) → k ≤ c → Bit a (c - k) → Bit (a * 2 ^ k) c
unfolding Bit
bit_shl a k c h b = let e : k + (c - k) ≡ c = omega arith in ap (λ x. x % 2) (rw e at (moved a k (c - k))) ∙ b

low_at : (a t c : ℕ) → (a * 2 ^ ((t + 1) + c) / 2 ^ c) % 2 ≡ 0
low_at a t c =
    let s : 2 ^ ((t + 1) + c) ≡ 2 ^ (t + 1) * 2 ^ c = pow-add 2 (t + 1) c in
    let q : a * 2 ^ ((t + 1) + c) / 2 ^ c ≡ a * 2 ^ (t + 1) = rw (s, ← mul_assoc) (shl-shr (a * 2 ^ (t + 1)) c) in
    let r : a * 2 ^ (t + 1) ≡ (a * 2 ^ t) * 2 = rw (pow-add 2 t 1, ← mul_assoc) in
    omega arith

pub shl_bit : (a k c : ℕ) → Bit (a * 2 ^ k) c → (k ≤ c) × Bit a (c - k)
unfolding Bit
shl_bit a k c b =
    let h : k ≤ c = ⊎_elim
    (λ p. let e : (k - suc c + 1) + c ≡ k = omega arith in absurd (omega (arith, rw e at (low_at a (k - suc c) c))))
    (λ p. p) (cases_lt c k) in
    let e : k + (c - k) ≡ c = omega arith in
    (h, sym (ap (λ x. x % 2) (rw e at (moved a k (c - k)))) ∙ b)
