use Rattle.std.proofs.lemmas.Nat.{one_shl}
use Rattle.columns.specs.declared.relation.Relation.TheVariants.{Above}
use Rattle.columns.proofs.Sets.{near_none, near_above}
use Rattle.columns.proofs.mask.ColumnSet.below_highest.Goals as goal

pub returns-then-is_empty : goal.returns-then-is_empty
returns-then-is_empty c = rw c.if-is_empty.ensures.value (near_none Above)

pub returns-else-is_empty : goal.returns-else-is_empty
returns-else-is_empty c =
    let k = c.ilog2.result in
    rw (one_shl k 64 c.ilog2.ensures.bound)
    (near_above c.args.self.bits k c.ilog2.ensures.bound c.ilog2.ensures.power_le c.ilog2.ensures.next_power_gt)
