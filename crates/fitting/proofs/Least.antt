-- The minimal policy keeps to the relations, goes no deeper than it must, and gives nodes the least columns.
use Rattle.std.proofs.Common.{◌≡◌, ℕ, ◌<◌, ◌≤◌, max, Bool, true, false, cond, leb, refl, ap, ◌∙◌, arith}
use Rattle.std.proofs.lemmas.Bool.{leb-true}
use Rattle.columns.specs.declared.relation.Relation.{Relation}
use Rattle.columns.specs.declared.relation.Relation.TheVariants.{Equal, Above, AtLeast, Any}
use Rattle.columns.specs.Relation.{Meets}
use Rattle.grammar.specs.declared.rule.Child.{Child}
use Rattle.grammar.specs.declared.rule.Child.TheVariants.{Piece, Node}
use Rattle.grammar.specs.Model.{child_of}
use Rattle.policy.specs.declared.question.Bound.{Bound}
use Rattle.policy.specs.declared.question.Bound.TheVariants as bound
use Rattle.policy.specs.declared.question.Question.{Question}
use Rattle.policy.specs.declared.question.Answer.{Answer}
use Rattle.policy.specs.Answers.{relation_of}
use Rattle.policy.specs.Policies.{least_column, minimal, new_line, same_line}
use Rattle.tree.specs.Slots.{Slot}
use Rattle.layout.specs.Questions.{answer_by, question}
use Rattle.fitting.specs.Fitting.{Obeys}

-- the minimal answer where the least column is l and the cursor c
abbrev answered : Bool → Child → Bool → ℕ → ℕ → Answer
answered mark child near l c = cond mark (new_line l) (elim child [
  | Node ↦ same_line l
  | Piece ↦ cond near (same_line (max l c)) (same_line l)
])

at_least : (mark : Bool) (child : Child) (near : Bool) (l c : ℕ) → l ≤ (answered mark child near l c).column
at_least true child near l c = omega arith
at_least false Node near l c = omega arith
at_least false Piece true l c = omega arith
at_least false Piece false l c = omega arith

within : (mark : Bool) (child : Child) (near : Bool) (l c : ℕ) → (near ≡ true → c ≤ 63) → l ≤ 63
    → (answered mark child near l c).column ≤ 63
within true child near l c h low = low
within false Node near l c h low = low
within false Piece true l c h low = let k = h refl in omega arith
within false Piece false l c h low = low

of_node : (mark : Bool) (near : Bool) (l c : ℕ) → (answered mark Node near l c).column ≡ l
of_node true near l c = refl
of_node false near l c = refl

pub minimal-above : (q : Question) → least_column q ≤ (minimal q).column
minimal-above q = at_least q.mark q.child (leb q.cursor 63) (least_column q) q.cursor

pub minimal_shallow : (q : Question) → least_column q ≤ 63 → (minimal q).column ≤ 63
minimal_shallow q low =
    within q.mark q.child (leb q.cursor 63) (least_column q) q.cursor (λ e. leb-true q.cursor 63 e) low

pub minimal-node : (q : Question) → q.child ≡ Node → (minimal q).column ≡ least_column q
minimal-node q e =
    ap (λ (k : Child). (answered q.mark k (leb q.cursor 63) (least_column q) q.cursor).column) e
    ∙ of_node q.mark (leb q.cursor 63) (least_column q) q.cursor

keeps_by : (b : Bound) (mark : Bool) (child : Child) (c cursor : ℕ) → c ≤ 63
    → Meets (relation_of b) c (minimal (record { column = c; bound = b; mark = mark; child = child; cursor = cursor })).column
keeps_by bound.Above mark child c cursor low =
    let h = minimal-above (record { column = c; bound = bound.Above; mark = mark; child = child; cursor = cursor }) in omega arith
keeps_by bound.AtLeast mark child c cursor low =
    minimal-above (record { column = c; bound = bound.AtLeast; mark = mark; child = child; cursor = cursor })
keeps_by bound.Any mark child c cursor low = tt

pub minimal_obeys : Obeys minimal
minimal_obeys q low near = keeps_by q.bound q.mark q.child q.column q.cursor low

-- an item whose node stands no further to the right than one at column c, where column d meets the relation
module _ (cursor : ℕ) (s : Slot) (c d : ℕ) (left : s.column ≤ c) where
  pub shallow : (u : Relation) → Meets u c d → d < 64 → (answer_by minimal cursor s u).column ≤ 63
  shallow Equal meets low = omega arith
  shallow Above meets low = minimal_shallow (question cursor s bound.Above) (omega arith)
  shallow AtLeast meets low = minimal_shallow (question cursor s bound.AtLeast) (omega arith)
  shallow Any meets low = minimal_shallow (question cursor s bound.Any) (omega arith)

  pub leftmost : (u : Relation) → Meets u c d → child_of s.item.symbol ≡ Node → (answer_by minimal cursor s u).column ≤ d
  leftmost Equal meets is = omega arith
  leftmost Above meets is = let e = minimal-node (question cursor s bound.Above) is in omega arith
  leftmost AtLeast meets is = let e = minimal-node (question cursor s bound.AtLeast) is in omega arith
  leftmost Any meets is = let e = minimal-node (question cursor s bound.Any) is in omega arith
