use Rattle.std.proofs.Common.{arith}
use Rattle.columns.specs.declared.relation.Relation.TheVariants.{Any}
use Rattle.columns.proofs.Sets.{near_none, near_any}
use Rattle.columns.proofs.mask.ColumnSet.all_if_some.Goals as goal

pub returns-then-is_empty : goal.returns-then-is_empty
returns-then-is_empty c = rw c.if-is_empty.ensures.value (near_none Any)

pub returns-else-is_empty : goal.returns-else-is_empty
returns-else-is_empty c = near_any c.args.self.bits c.if-is_empty.ensures.value (omega arith)
