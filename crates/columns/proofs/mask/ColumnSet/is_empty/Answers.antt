use Rattle.std.proofs.Common.{arith}
use Rattle.columns.proofs.Bits.{some_told}
use Rattle.columns.proofs.mask.ColumnSet.is_empty.Goals as goal

pub returns-clause-columns : goal.returns-clause-columns
returns-clause-columns c = some_told c.args.self.bits (omega arith)
