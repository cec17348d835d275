-- What laying out gives meets the relations of the items to come.
use Rattle.std.proofs.Common.{◌≡◌, ℕ, zero, suc, ◌+◌, ◌≤◌, List, [], ◌∷◌, drop, Some, Ok, Result, sym, refl, ap, ◌∙◌, subst, arith}
use Rattle.std.specs.List.{slice_get, AllByRecursion}
use Rattle.std.proofs.ByRecursion.{All-append}
use Rattle.columns.specs.declared.relation.Relation.{Relation}
use Rattle.columns.specs.declared.relation.Relation.TheVariants.{Equal, Above, AtLeast, Any}
use Rattle.columns.specs.Relation.{Meets}
use Rattle.faults.specs.declared.fault.Fault.{Fault}
use Rattle.grammar.specs.declared.rule.Item.{Item}
use Rattle.grammar.specs.Model.{Model}
use Rattle.grammar.specs.Several.{listed}
use Rattle.policy.specs.declared.question.Bound.TheVariants as bound
use Rattle.policy.specs.declared.question.Question.{Question}
use Rattle.policy.specs.declared.question.Answer.{Answer}
use Rattle.tree.specs.Slots.{Slot, slots}
use Rattle.layout.specs.declared.line.Line.{Line}
use Rattle.layout.specs.declared.placement.Placement.{Placement}
use Rattle.layout.specs.Layouts.{Lays}
use Rattle.layout.specs.Layouts.Lays.{end, deep, piece, node}
use Rattle.layout.proofs.Outcomes.{prefixed_ok}
use Rattle.layout.specs.Questions.{answer_by, answer_of, question}
use Rattle.fitting.specs.Fitting.{Obeys, Short, columns_of}
use Rattle.fitting.proofs.Meeting.{Met}

some-drop : (ks : List ℕ) (i a : ℕ) (us : List ℕ) → drop i ks ≡ a ∷ us → (slice_get ks i ≡ Some a) × (drop (suc i) ks ≡ us)
some-drop [] zero a us e = cc
some-drop [] (suc i) a us e = cc
some-drop (k ∷ ks) zero a us e = let q : k ≡ a = cc in let r : ks ≡ us = cc in (ap Some q, r)
some-drop (k ∷ ks) (suc i) a us e = some-drop ks i a us e

-- the node of an item stands in a column from 0 to 63
abbrev pub Low : Slot → Type 0
Low s = s.column ≤ 63

pub slots-low : (r c k : ℕ) (xs : List Item) → c ≤ 63 → AllByRecursion Low (slots r c k xs)
slots-low r c k [] h = tt
slots-low r c k (x ∷ xs) h = (h, slots-low r c (k + 1) xs h)

module _ (G : Model) (P : Question → Answer) (obeys : Obeys P) where
  by_relation : (u : Relation) (cursor : ℕ) (s : Slot) → s.column ≤ 63 → cursor ≤ 96
      → Meets u s.column (answer_by P cursor s u).column
  by_relation Equal cursor s low near = refl
  by_relation Above cursor s low near = obeys (question cursor s bound.Above) low near
  by_relation AtLeast cursor s low near = obeys (question cursor s bound.AtLeast) low near
  by_relation Any cursor s low near = tt

  answer_meets : (cursor : ℕ) (s : Slot) (a : Answer) → a ≡ answer_of P cursor s → s.column ≤ 63 → cursor ≤ 96
      → Meets s.item.relation s.column a.column
  answer_meets cursor s a is low near =
      subst (λ (b : Answer). Meets s.item.relation s.column b.column) (sym is) (by_relation s.item.relation cursor s low near)

  pub lays_met : (ds : List ℕ) {line : Line} {ss : List Slot} {rs ls : List ℕ} {out : Result (List Placement) Fault}
      → Lays G P line ss rs ls out → (i : ℕ) (ps : List Placement) → out ≡ Ok ps → drop i ds ≡ columns_of ps → line.cursor ≤ 96
      → Short ls → AllByRecursion Low ss → Met G ds ss rs i
  lays_met ds end i ps e at near short low = Met.end
  lays_met ds (deep high) i ps e at near short low = cc
  lays_met ds {line = line} (piece {s = s} {l = l} {a = a} {out = out} is shallow symbol rest all) i ps e at near (h, short) (c, low) =
      let q = prefixed_ok _ out ps (sym all ∙ e) in
      let n = some-drop ds i a.column (columns_of q.0) (at ∙ ap columns_of q.2) in
      let cursor : a.column + l + 1 ≤ 96 = omega arith in
      Met.piece symbol n.0 (omega arith) (answer_meets line.cursor s a is c near)
      (lays_met ds rest (suc i) q.0 q.1 n.1 cursor short low)
  lays_met ds {line = line} (node {s = s} {ss = ss} {r = r} {rule = rule} {a = a} is shallow symbol known rest) i ps e at near short
      (c, low) =
      let xs = listed rule.items in
      let wide = All-append Low (slots r a.column 0 xs) ss (slots-low r a.column 0 xs shallow) low in
      Met.node symbol known (omega arith) (answer_meets line.cursor s a is c near) (lays_met ds rest i ps e at near short wide)
