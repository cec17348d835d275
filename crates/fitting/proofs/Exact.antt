-- Laying out by the minimal policy refuses no tree that some columns fit.
use Rattle.std.proofs.Common.{◌≡◌, ℕ, ◌+◌, ◌≤◌, List, [], ◌∷◌, ◌++◌, Ok, Err, Result, sym, refl, ap, ◌∙◌, subst, arith}
use Rattle.std.specs.List.{slice_get, AllZip}
use Rattle.columns.specs.Relation.{Meets}
use Rattle.faults.specs.declared.fault.Fault.{Fault}
use Rattle.faults.specs.declared.fault.Fault.TheVariants.{TooDeep}
use Rattle.grammar.specs.declared.rule.Item.{Item}
use Rattle.grammar.specs.declared.rule.Rule.{Rule}
use Rattle.grammar.specs.Model.{Model, child_of}
use Rattle.grammar.specs.Several.{listed}
use Rattle.policy.specs.declared.question.Question.{Question}
use Rattle.policy.specs.declared.question.Answer.{Answer}
use Rattle.policy.specs.Policies.{minimal}
use Rattle.tree.specs.Slots.{Slot, slots}
use Rattle.layout.specs.declared.line.Line.{Line}
use Rattle.layout.specs.declared.placement.Placement.{Placement}
use Rattle.layout.specs.Layouts.{Lays, prefixed}
use Rattle.layout.specs.Layouts.Lays.{end, deep, piece, node}
use Rattle.chart.proofs.Rows.{same_some}
use Rattle.chart.proofs.Once.{not_both_kinds}
use Rattle.fitting.proofs.Meeting.{Met}
use Rattle.fitting.proofs.Least.{leftmost, shallow}

prefixed_err : (p : Placement) (out : Result (List Placement) Fault) (f : Fault) → prefixed (p ∷ []) out ≡ Err f → out ≡ Err f
prefixed_err p (Ok qs) f e = cc
prefixed_err p (Err g) f e = e

-- laying out refuses nothing but what is too deep
pub lays-deep : (G : Model) (P : Question → Answer) {line : Line} {ss : List Slot} {rs ls : List ℕ} {out : Result (List Placement) Fault}
    → Lays G P line ss rs ls out → (f : Fault) → out ≡ Err f → (r : ℕ) × (k : ℕ) × (f ≡ TooDeep r k)
lays-deep G P end f e = cc
lays-deep G P (deep {s = s} high) f e = (s.rule, s.index, cc)
lays-deep G P (piece {out = out} is low symbol rest all) f e = lays-deep G P rest f (prefixed_err _ out f (sym all ∙ e))
lays-deep G P (node is low symbol known rest) f e = lays-deep G P rest f e

-- the same item of a node no further to the right
abbrev pub Left : Slot → Slot → Type 0
Left s v = (s.item ≡ v.item) × (s.column ≤ v.column)

pub slots-left : (r c d k : ℕ) (xs : List Item) (ss vs : List Slot) → c ≤ d → AllZip Left ss vs
    → AllZip Left (slots r c k xs ++ ss) (slots r d k xs ++ vs)
slots-left r c d k [] ss vs le rest = rest
slots-left r c d k (x ∷ xs) ss vs le rest = ((refl, le), slots-left r c d (k + 1) xs ss vs le rest)

module _ (G : Model) (ds : List ℕ) where
  pub never_deep : {line : Line} {ss vs : List Slot} {rs ls : List ℕ} {out : Result (List Placement) Fault} {i : ℕ}
      → Lays G minimal line ss rs ls out → Met G ds vs rs i → AllZip Left ss vs → (f : Fault) → out ≡ Err f → ⊥
  never_deep end met left f e = cc
  never_deep (deep high) Met.end left f e = left
  never_deep {line = line} (deep {s = s} high) (Met.piece {s = v} {d = d} symbol at low meets rest) ((same, le), left) f e =
      let m = subst (λ (x : Item). Meets x.relation v.column d) (sym same) meets in
      let h = shallow line.cursor s v.column d le s.item.relation m low in
      omega arith
  never_deep {line = line} (deep {s = s} high) (Met.node {s = v} {d = d} symbol known low meets rest) ((same, le), left) f e =
      let m = subst (λ (x : Item). Meets x.relation v.column d) (sym same) meets in
      let h = shallow line.cursor s v.column d le s.item.relation m low in
      omega arith
  never_deep (piece is low symbol rest all) Met.end left f e = left
  never_deep (piece {out = out} is low symbol rest all) (Met.piece symbol2 at low2 meets rest2) (same, left) f e =
      never_deep rest rest2 left f (prefixed_err _ out f (sym all ∙ e))
  never_deep (piece {s = s} {t = a} is low symbol rest all) (Met.node {rule = rule} symbol2 known low2 meets rest2) ((same, le), left) f e =
      not_both_kinds s.item.symbol a rule.left symbol (ap (λ (x : Item). x.symbol) same ∙ symbol2)
  never_deep (node {s = s} {rule = rule} is low symbol known rest) (Met.piece {a = a} symbol2 at low2 meets rest2) ((same, le), left) f e =
      not_both_kinds s.item.symbol a rule.left (ap (λ (x : Item). x.symbol) same ∙ symbol2) symbol
  never_deep {line = line} (node {s = s} {ss = ss} {rs = rs} {r = r} {rule = rule} {a = a} is low symbol known rest)
      (Met.node {s = v} {ss = vs} {i = i} {d = d} {rule = other} symbol2 known2 low2 meets rest2) ((same, le), left) f e =
      let m = subst (λ (x : Item). Meets x.relation v.column d) (sym same) meets in
      let h = leftmost line.cursor s v.column d le s.item.relation m (ap child_of symbol) in
      let c = ap (λ (x : Answer). x.column) is in
      let y = same_some (slice_get G.rules r) other rule known2 known in
      let again = subst (λ (x : Rule). Met G ds (slots r d 0 (listed x.items) ++ vs) rs i) y rest2 in
      never_deep rest again (slots-left r a.column d 0 (listed rule.items) ss vs (omega arith) left) f e
