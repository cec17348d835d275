-- The built-in policies, each a function from questions to answers. A column past 255 is taken as 255.
--   least_column   c + 1 where the column must be above c, c where it must be at least c, 0 where any will do
--   beside         the greater of least column and cursor
--   same_line      an answer without a break
--   new_line       an answer with a break
--   unmarked       what becomes of an item without a mark
--   minimal        a marked item takes the least column and breaks
--   step           a marked item takes the node's column plus the width and breaks
--   hanging        a marked item stays beside if the cursor is at most 63, else it takes the least column and breaks
--   Width          a step width: 1 to 8
use Rattle.std.specs.Prelude.{ℕ, ◌+◌, ◌≤◌, min, max, true, false, cond, nat_le}
use Rattle.grammar.specs.declared.rule.Child.TheVariants.{Piece, Node}
use Rattle.policy.specs.declared.question.Bound.TheVariants.{Above, AtLeast, Any}
use Rattle.policy.specs.declared.question.Question.{Question}
use Rattle.policy.specs.declared.question.Answer.{Answer}

abbrev pub least_column : Question → ℕ
least_column q = elim q.bound [ Above ↦ min (q.column + 1) 255 | AtLeast ↦ q.column | Any ↦ 0 ]

abbrev pub beside : Question → ℕ
beside q = max (least_column q) q.cursor

abbrev pub same_line : ℕ → Answer
same_line d = record { column = d; breaks = false }

abbrev pub new_line : ℕ → Answer
new_line d = record { column = d; breaks = true }

abbrev pub unmarked : Question → Answer
unmarked q = elim q.child [
  | Node ↦ same_line (least_column q)
  | Piece ↦ cond (nat_le q.cursor 63) (same_line (beside q)) (same_line (least_column q))
]

abbrev pub minimal : Question → Answer
minimal q = cond q.mark (new_line (least_column q)) (unmarked q)

abbrev pub step : ℕ → Question → Answer
step w q = cond q.mark (new_line (min (q.column + w) 255)) (unmarked q)

abbrev pub hanging : Question → Answer
hanging q = cond q.mark (cond (nat_le q.cursor 63) (same_line (beside q)) (new_line (least_column q))) (unmarked q)

abbrev pub Width : ℕ → Type 0
Width w = (1 ≤ w) × (w ≤ 8)
