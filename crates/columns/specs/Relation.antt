-- How an item's column stands to its node's.
--   Meets   the column d of an item meets the relation to the column c of its node
use Rattle.std.specs.Prelude.{◌≡◌, ℕ, ◌<◌, ◌≤◌}
use Rattle.columns.specs.declared.relation.Relation.{Relation}
use Rattle.columns.specs.declared.relation.Relation.TheVariants.{Equal, Above, AtLeast, Any}

abbrev pub Meets : Relation → ℕ → ℕ → Type 0
Meets Equal c d = d ≡ c
Meets Above c d = c < d
Meets AtLeast c d = c ≤ d
Meets Any c d = Unit {0}
