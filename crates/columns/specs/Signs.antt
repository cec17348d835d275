-- Relations as text.
--   sign   what a rule file writes for a relation
use Rattle.std.specs.Prelude.{ℕ, List, codes}
use Rattle.columns.specs.declared.relation.Relation.{Relation}
use Rattle.columns.specs.declared.relation.Relation.TheVariants.{Equal, Above, AtLeast, Any}

abbrev pub sign : Relation → List ℕ
sign Equal = codes "="
sign Above = codes ">"
sign AtLeast = codes ">="
sign Any = codes "*"
