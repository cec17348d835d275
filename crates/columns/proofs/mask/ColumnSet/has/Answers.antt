use Rattle.std.proofs.Common.{◌≡◌, ℕ, ◌/◌, ◌%◌, ◌^◌, eqb, MatchBool, sym, subst, arith, rules, le-ltb}
use lib.Bits.{and_mask}
use Rattle.columns.specs.Mask.{Bit}
use Rattle.columns.proofs.Bits.{bit_lt}
use Rattle.columns.proofs.mask.ColumnSet.has.Goals as goal

tells_one : (y : ℕ) → MatchBool (eqb y 1) (y ≡ 1) (y ≡ 1 → ⊥)
tells_one y = search rules

pub returns-then-column-lt64 : goal.returns-then-column-lt64
unfolding Bit
returns-then-column-lt64 c =
    let n : ℕ = c.args.self.bits / 2 ^ c.args.column in
    subst (λ (y : ℕ). MatchBool (eqb y 1) (n % 2 ≡ 1) (n % 2 ≡ 1 → ⊥)) (sym (and_mask n 1)) (tells_one (n % 2))

pub returns-else-column-lt64 : goal.returns-else-column-lt64
returns-else-column-lt64 c =
    rw (le-ltb c.args.column 64 (omega arith)) (λ b. omega (arith, bit_lt c.args.self.bits c.args.column 64 (omega arith) b))
