-- What comes out of laying a tree out: one thing, with a placement for each piece.
use Rattle.std.proofs.Common.{◌≡◌, ℕ, suc, ◌<◌, ◌≤◌, List, [], ◌∷◌, ◌++◌, length, Some, Ok, Err, Result, sym, refl, ap, ◌∙◌}
use Rattle.std.proofs.Common.{subst, arith}
use Rattle.faults.specs.declared.fault.Fault.{Fault}
use Rattle.grammar.specs.declared.rule.Rule.{Rule}
use Rattle.grammar.specs.Model.{Model}
use Rattle.grammar.specs.Several.{listed}
use Rattle.policy.specs.declared.question.Question.{Question}
use Rattle.policy.specs.declared.question.Answer.{Answer}
use Rattle.tree.specs.Slots.{Slot, slots}
use Rattle.layout.specs.declared.line.Line.{Line}
use Rattle.layout.specs.declared.placement.Placement.{Placement}
use Rattle.layout.specs.Layouts.{ComesOut, Lays, LaysOut, prefixed, start}
use Rattle.layout.specs.Layouts.Lays.{end, deep, piece, node}
use Rattle.layout.specs.Lines.{asked, behind, placed}
use Rattle.layout.specs.Questions.{answer_of}

pub prefixed_ok : (p : Placement) (out : Result (List Placement) Fault) (ps : List Placement) → prefixed (p ∷ []) out ≡ Ok ps
    → (qs : List Placement) × (out ≡ Ok qs) × (ps ≡ p ∷ qs)
prefixed_ok p (Ok qs) ps e = (qs, refl, cc)
prefixed_ok p (Err f) ps e = cc

prefixed-long : (p : Placement) (out : Result (List Placement) Fault) (qs : List Placement) (n : ℕ)
    → ((us : List Placement) → out ≡ Ok us → length us ≡ n) → prefixed (p ∷ []) out ≡ Ok qs → length qs ≡ suc n
prefixed-long p (Ok us) qs n long e =
    let s : qs ≡ p ∷ us = cc in
    let l = long us refl in
    let m = ap length s in
    omega arith
prefixed-long p (Err f) qs n long e = let z : ◌≡◌ {A = ℕ} 0 1 = cc in absurd (omega arith)

module _ (G : Model) (P : Question → Answer) where
  pub lays-long : {line : Line} {ss : List Slot} {rs ls : List ℕ} {out : Result (List Placement) Fault} → Lays G P line ss rs ls out
      → (qs : List Placement) → out ≡ Ok qs → length qs ≡ length ls
  lays-long end qs e = let s : qs ≡ [] = cc in ap length s
  lays-long (deep high) qs e = let z : ◌≡◌ {A = ℕ} 0 1 = cc in absurd (omega arith)
  lays-long (piece {ls = ls} {out = out} is low symbol rest all) qs e
      = prefixed-long _ out qs (length ls) (λ us o. lays-long rest us o) (sym all ∙ e)
  lays-long (node is low symbol known rest) qs e = lays-long rest qs e

  pub lays_out_long : (rules ls : List ℕ) (qs : List Placement) → LaysOut G P rules ls (Ok qs) → length qs ≡ length ls
  lays_out_long [] ls qs l = absurd l
  lays_out_long (r ∷ rs) ls qs l = lays-long l.2 qs refl

  -- an answer is not both above 63 and not
  torn : (line : Line) (s : Slot) (a : Answer) → a ≡ answer_of P line.cursor s → a.column ≤ 63
      → 63 < (answer_of P line.cursor s).column → ⊥
  torn line s a is low high = let e = ap (λ (x : Answer). x.column) is in omega arith

  pub lays_one : {line : Line} {ss : List Slot} {rs ls : List ℕ} {x y : Result (List Placement) Fault} → Lays G P line ss rs ls x
      → Lays G P line ss rs ls y → x ≡ y
  lays_one end end = refl
  lays_one (deep high) (deep high2) = refl
  lays_one {line = line} (deep {s = s} high) (piece {a = a} is low symbol rest all) = absurd (torn line s a is low high)
  lays_one {line = line} (deep {s = s} high) (node {a = a} is low symbol known rest) = absurd (torn line s a is low high)
  lays_one {line = line} (piece {s = s} {a = a} is low symbol rest all) (deep high) = absurd (torn line s a is low high)
  lays_one {line = line} (node {s = s} {a = a} is low symbol known rest) (deep high) = absurd (torn line s a is low high)
  lays_one (piece is low symbol rest all) (node is2 low2 symbol2 known rest2) = cc
  lays_one (node is low symbol known rest) (piece is2 low2 symbol2 rest2 all2) = cc
  lays_one {line = line} (piece {ss = ss} {rs = rs} {ls = ls} {l = l} {a = a} is low symbol rest all)
      (piece {a = b} {out = out} is2 low2 symbol2 rest2 all2) =
      let same : b ≡ a = is2 ∙ sym is in
      let again = subst (λ (c : Answer). Lays G P (behind c.column l) ss rs ls out) same rest2 in
      let o = lays_one rest again in
      all
      ∙ ap (prefixed (placed (asked line a.breaks) a.column ∷ [])) o
      ∙ ap (λ (c : Answer). prefixed (placed (asked line c.breaks) c.column ∷ []) out) (sym same)
      ∙ sym all2
  lays_one {line = line} (node {ss = ss} {rs = rs} {ls = ls} {r = r} {rule = rule} {a = a} is low symbol known rest)
      (node {rule = other} {a = b} {out = out} is2 low2 symbol2 known2 rest2) =
      let same : b ≡ a = is2 ∙ sym is in
      let o : Some other ≡ Some rule = sym known2 ∙ known in
      let u : other ≡ rule = cc in
      let again = subst (λ (c : Answer). Lays G P (asked line c.breaks) (slots r c.column 0 (listed other.items) ++ ss) rs ls
      out) same rest2 in
      let twice = subst (λ (v : Rule). Lays G P (asked line a.breaks) (slots r a.column 0 (listed v.items) ++ ss) rs ls out) u
      again in
      lays_one rest twice

  pub lays_out_one : (rules ls : List ℕ) (x y : Result (List Placement) Fault) → LaysOut G P rules ls x → LaysOut G P rules ls y → y ≡ x
  lays_out_one [] ls x y a b = absurd a
  lays_out_one (r ∷ rs) ls x y (rule, known, lays) (other, known2, lays2) =
      let o : Some other ≡ Some rule = sym known2 ∙ known in
      let u : other ≡ rule = cc in
      let again = subst (λ (v : Rule). Lays G P start (slots r 0 0 (listed v.items)) rs ls y) u lays2 in
      sym (lays_one lays again)

  pub comes_out : (rules ls : List ℕ) (x : Result (List Placement) Fault) → LaysOut G P rules ls x → ComesOut G P rules ls x
  comes_out rules ls x l = record { lays = l; only = λ y m. lays_out_one rules ls x y l m }
