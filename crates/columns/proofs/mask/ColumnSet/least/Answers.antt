use Rattle.std.proofs.Common.{ℕ, Some, sym, subst, arith}
use lib.Count.{count_trailing_zeros}
use Rattle.columns.specs.Relation.{Meets}
use Rattle.columns.specs.Mask.{Bit, Lowest}
use Rattle.columns.proofs.Leasts.{least-none, least-some}
use Rattle.columns.proofs.mask.ColumnSet.least.Goals as goal

pub returns-then-is_empty : goal.returns-then-is_empty
returns-then-is_empty c =
    least-none c.args.self.bits _ (Meets c.args.relation c.args.column) (omega arith) c.item_columns.ensures (grind arith)

pub returns-else-is_empty : goal.returns-else-is_empty
returns-else-is_empty c =
    subst (λ (m : ℕ). Lowest (λ d. Bit c.args.self.bits d × Meets c.args.relation c.args.column d) (Some (count_trailing_zeros 64 m)))
    (sym c.bitand-meeting.ensures)
    (least-some c.args.self.bits _ (Meets c.args.relation c.args.column) (omega arith) c.item_columns.ensures (λ z. grind arith))
