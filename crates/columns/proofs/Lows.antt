-- The lowest bit of a number, by the count of its trailing zeros.
use Rattle.std.proofs.Common.{◌≡◌, ℕ, zero, suc, ◌/◌, ◌%◌, ◌^◌, ◌<◌, ◌≤◌, refl, suc-le-suc, zero-le, pow-suc, one-add, arith, shr-shr}
use lib.Count.{count_trailing_zeros, under}
use Rattle.columns.specs.Mask.{Bit}

pub bit_first : (m : ℕ) → m % 2 ≡ 1 → Bit m 0
unfolding Bit
bit_first m h = omega arith

pub first_bit : (m : ℕ) → Bit m 0 → m % 2 ≡ 1
unfolding Bit
first_bit m h = omega arith

halved : (m c : ℕ) → m / 2 / 2 ^ c ≡ m / 2 ^ suc c
halved m c = rw (one-add) at (shr-shr m 1 c)

pub bit_up : (m c : ℕ) → Bit (m / 2) c → Bit m (suc c)
unfolding Bit
bit_up m c h = omega (arith, halved m c)

pub bit_down : (m c : ℕ) → Bit m (suc c) → Bit (m / 2) c
unfolding Bit
bit_down m c h = omega (arith, halved m c)

under_le : (d t c : ℕ) → t ≤ c → under d t ≤ suc c
under_le zero t c h = suc-le-suc h
under_le (suc d) t c h = zero-le

-- no set bit stands lower than the zeros that trail
pub trailing_low : (k m c : ℕ) → Bit m c → count_trailing_zeros k m ≤ c
unfolding count_trailing_zeros
trailing_low zero m c b = zero-le
trailing_low (suc k) m zero b = rw (first_bit m b) zero-le
trailing_low (suc k) m (suc c) b = under_le (m % 2) (count_trailing_zeros k (m / 2)) c (trailing_low k (m / 2) c (bit_down m c b))

lowest : (m t d : ℕ) → m % 2 ≡ d → (d ≡ 0 → Bit (m / 2) t) → Bit m (under d t)
lowest m t zero e f = bit_up m t (f refl)
lowest m t (suc d) e f = bit_first m (omega arith)

-- the bit above the zeros that trail is set
pub trailing_bit : (k m : ℕ) → 0 < m → m < 2 ^ k → Bit m (count_trailing_zeros k m)
unfolding count_trailing_zeros
trailing_bit zero m p h = absurd (omega arith)
trailing_bit (suc k) m p h =
    lowest m (count_trailing_zeros k (m / 2)) (m % 2) refl (λ e. trailing_bit k (m / 2) (omega arith) (omega (arith, pow-suc 2 k)))
