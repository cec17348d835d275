use Rattle.std.proofs.Common.{arith}
use Rattle.columns.proofs.Sets.{means_all, means_as}
use Rattle.columns.proofs.mask.ColumnSet.item_columns.Goals as goal

pub returns-in-Above : goal.returns-in-Above
returns-in-Above c =
    simp c.in-Above.is (means_as c.starting_at.ensures (λ d x. (x.0, omega arith)) (λ d x. (x.0, omega arith)))

pub returns-in-AtLeast : goal.returns-in-AtLeast
returns-in-AtLeast c = simp c.in-AtLeast.is c.starting_at-in-AtLeast.ensures

pub returns-in-Any : goal.returns-in-Any
returns-in-Any c = simp c.in-Any.is means_all
