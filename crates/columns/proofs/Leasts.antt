-- The least column of a set that also belongs to another.
use Rattle.std.proofs.Common.{◌≡◌, ℕ, ◌^◌, ◌<◌, Some, None, subst, arith}
use lib.Bits.{bit_and}
use lib.Count.{count_trailing_zeros}
use Rattle.std.proofs.lemmas.Nat.{and_le_l}
use Rattle.columns.specs.Mask.{Bit, Means, Lowest}
use Rattle.columns.proofs.Bits.{bit-and, and_bit, bit_zero, bit_lt}
use Rattle.columns.proofs.Lows.{trailing_bit, trailing_low}

module _ (a b : ℕ) (Q : ℕ → Type 0) (h : a < 2 ^ 64) (e : Means b (λ d. (d < 64) × Q d)) where
  both : (d : ℕ) → Bit a d → Q d → Bit (bit_and a b) d
  both d x q = and_bit a b d x (e.whole d (bit_lt a d 64 h x, q))

  pub least-none : bit_and a b ≡ 0 → Lowest (λ d. Bit a d × Q d) None
  least-none z = λ d x. bit_zero d (subst (λ (m : ℕ). Bit m d) z (both d x.0 x.1))

  pub least-some : (bit_and a b ≡ 0 → ⊥) → Lowest (λ d. Bit a d × Q d) (Some (count_trailing_zeros 64 (bit_and a b)))
  least-some n =
      let t = count_trailing_zeros 64 (bit_and a b) in
      let l = trailing_bit 64 (bit_and a b) (omega arith) (omega (arith, and_le_l a b)) in
      let p = bit-and a b t l in
      ((p.0, (e.sound t p.1).1), λ d x. trailing_low 64 (bit_and a b) d (both d x.0 x.1))
