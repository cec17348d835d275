-- What a policy's answer must be.
--   relation_of   the relation that a bound stands for
--   bound_of      the bound that a relation stands for; none for `=`
--   Keeps         the answered column meets the relation that the question names
use Rattle.std.specs.Prelude.{None, Some, Option}
use Rattle.columns.specs.declared.relation.Relation.{Relation}
use Rattle.columns.specs.declared.relation.Relation.TheVariants as relation
use Rattle.columns.specs.Relation.{Meets}
use Rattle.policy.specs.declared.question.Bound.{Bound}
use Rattle.policy.specs.declared.question.Bound.TheVariants.{Above, AtLeast, Any}
use Rattle.policy.specs.declared.question.Question.{Question}
use Rattle.policy.specs.declared.question.Answer.{Answer}

abbrev pub relation_of : Bound → Relation
relation_of Above = relation.Above
relation_of AtLeast = relation.AtLeast
relation_of Any = relation.Any

abbrev pub bound_of : Relation → Option Bound
bound_of relation.Equal = None
bound_of relation.Above = Some Above
bound_of relation.AtLeast = Some AtLeast
bound_of relation.Any = Some Any

abbrev pub Keeps : Question → Answer → Type 0
Keeps q a = Meets (relation_of q.bound) q.column a.column
