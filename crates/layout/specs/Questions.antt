-- What an item takes when a tree is laid out.
--   question    what the policy is told of an item
--   answer_of   the item's column and whether it asks for a break: its node's column for `=`, else what the policy answers
--   Settles     that answer, or a refusal where its column is above 63
use Rattle.std.specs.Prelude.{◌≡◌, ℕ, ◌<◌, ◌≤◌, false, Ok, Err, Result}
use Rattle.columns.specs.declared.relation.Relation.{Relation}
use Rattle.columns.specs.declared.relation.Relation.TheVariants.{Equal, Above, AtLeast, Any}
use Rattle.faults.specs.declared.fault.Fault.{Fault}
use Rattle.faults.specs.declared.fault.Fault.TheVariants.{TooDeep}
use Rattle.grammar.specs.Model.{child_of}
use Rattle.policy.specs.declared.question.Bound.{Bound}
use Rattle.policy.specs.declared.question.Bound.TheVariants as bound
use Rattle.policy.specs.declared.question.Question.{Question}
use Rattle.policy.specs.declared.question.Answer.{Answer}
use Rattle.tree.specs.declared.walk.Step.{Step}
use Rattle.tree.specs.Slots.{Slot}

abbrev pub question : ℕ → Slot → Bound → Question
question cursor s b = record { column = s.column; bound = b; mark = s.item.mark; child = child_of s.item.symbol; cursor = cursor }

abbrev pub answer_by : (Question → Answer) → ℕ → Slot → Relation → Answer
answer_by policy cursor s Equal = record { column = s.column; breaks = false }
answer_by policy cursor s Above = policy (question cursor s bound.Above)
answer_by policy cursor s AtLeast = policy (question cursor s bound.AtLeast)
answer_by policy cursor s Any = policy (question cursor s bound.Any)

abbrev pub answer_of : (Question → Answer) → ℕ → Slot → Answer
answer_of policy cursor s = answer_by policy cursor s s.item.relation

abbrev pub Settles : Answer → Step → Result Answer Fault → Type 0
Settles a step (Ok b) = (b ≡ a) × (b.column ≤ 63)
Settles a step (Err f) = (f ≡ TooDeep step.rule step.index) × (63 < a.column)
