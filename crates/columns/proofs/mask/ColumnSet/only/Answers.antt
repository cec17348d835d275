use Rattle.std.proofs.Common.{arith}
use Rattle.std.proofs.lemmas.Nat.{one_shl}
use Rattle.columns.proofs.Sets.{means_only, means_none}
use Rattle.columns.proofs.mask.ColumnSet.only.Goals as goal

pub returns-then-column-lt64 : goal.returns-then-column-lt64
returns-then-column-lt64 c =
    let h = c.if-column-lt64.true in
    rw (one_shl c.args.column 64 h) (means_only c.args.column h)

pub returns-else-column-lt64 : goal.returns-else-column-lt64
returns-else-column-lt64 c = means_none (λ d x. omega arith)
