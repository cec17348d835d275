-- Sets of columns, each a 64-bit mask.
--   Bit      column c belongs to the set m: bit c of the mask is 1
--   Means    the set m has just the columns of which P holds
--   Near     a column of a node, below 64, that one of the item columns in P meets
--   Lowest   the lowest column of which P holds, none where there is none
use Rattle.std.specs.Prelude.{◌≡◌, ℕ, ◌/◌, ◌%◌, ◌^◌, ◌<◌, ◌≤◌, Some, None, Option}
use Rattle.columns.specs.declared.relation.Relation.{Relation}
use Rattle.columns.specs.Relation.{Meets}

unfoldable pub Bit : ℕ → ℕ → Type 0
Bit m c = (m / 2 ^ c) % 2 ≡ 1

pub record Means (m : ℕ) (P : ℕ → Type 0) : Type 0 where
  pub sound : (c : ℕ) → Bit m c → P c
  pub whole : (c : ℕ) → P c → Bit m c

unfoldable pub Near : Relation → (ℕ → Type 0) → ℕ → Type 0
Near relation P c = (c < 64) × ((d : ℕ) × P d × Meets relation c d)

abbrev pub Lowest : (ℕ → Type 0) → Option ℕ → Type 0
Lowest P None = (d : ℕ) → P d → ⊥
Lowest P (Some d) = P d × ((e : ℕ) → P e → d ≤ e)
