use Rattle.std.proofs.Common.{arith}
use Rattle.columns.proofs.Sets.{means_from, means_none}
use Rattle.columns.proofs.mask.ColumnSet.starting_at.Goals as goal

pub returns-then-column-lt64 : goal.returns-then-column-lt64
returns-then-column-lt64 c = means_from c.args.column

pub returns-else-column-lt64 : goal.returns-else-column-lt64
returns-else-column-lt64 c = means_none (λ d x. omega arith)
