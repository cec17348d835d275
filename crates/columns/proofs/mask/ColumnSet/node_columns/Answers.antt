use Rattle.std.proofs.Common.{arith}
use Rattle.columns.proofs.Sets.{near_equal, near_at_least}
use Rattle.columns.proofs.mask.ColumnSet.node_columns.Goals as goal

pub returns-in-Equal : goal.returns-in-Equal
returns-in-Equal c = rw c.in-Equal.is (near_equal c.args.self.bits (omega arith))

pub returns-in-AtLeast : goal.returns-in-AtLeast
returns-in-AtLeast c =
    rw (c.in-AtLeast.is, c.bitor.ensures) (near_at_least _ c.args.self.bits (omega arith) c.below_highest-in-AtLeast.ensures)
