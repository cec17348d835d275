-- Lines break where and only where they should.
use Rattle.std.proofs.Common.{◌≡◌, ℕ, suc, ◌+◌, Bool, true, false, ◌&&◌, ◌||◌, ltb, List, [], ◌∷◌, ◌++◌, Some, Ok, Result, sym, refl, ap}
use Rattle.std.proofs.Common.{◌∙◌, subst, ap₂, add-one}
use mathlib.Core.Bool.{and-false, and-true, or_assoc, or_comm, or-false}
use lib.Dec.{leb-suc-zero, leb-suc-suc, leb-zero}
use Rattle.std.specs.List.{slice_get}
use Rattle.faults.specs.declared.fault.Fault.{Fault}
use Rattle.grammar.specs.declared.rule.Rule.{Rule}
use Rattle.grammar.specs.Model.{Model}
use Rattle.grammar.specs.Several.{listed}
use Rattle.policy.specs.declared.question.Question.{Question}
use Rattle.policy.specs.declared.question.Answer.{Answer}
use Rattle.tree.specs.Slots.{Slot, slots}
use Rattle.layout.specs.declared.line.Line.{Line}
use Rattle.layout.specs.declared.placement.Placement.{Placement}
use Rattle.layout.specs.Layouts.{Lays, start}
use Rattle.layout.proofs.Outcomes.{prefixed_ok}
use Rattle.layout.specs.Lines.{asked, behind, placed}
use Rattle.chart.proofs.Rows.{same_some}
use Rattle.chart.proofs.Once.{not_both_kinds}
use Rattle.fitting.specs.Turns.{Turn, Turns, Breaks, asks, nodes, pieces}

-- what the turns place, on a line that is being filled
abbrev placements : Line → List Turn → List Placement
placements line [] = []
placements line (Turn.node a ∷ ns) = placements (asked line a.breaks) ns
placements line (Turn.piece a l ∷ ns) = placed (asked line a.breaks) a.column ∷ placements (behind a.column l) ns

asked_more : (line : Line) (x y : Bool) → asked (asked line x) y ≡ asked line (x || y)
asked_more line x y = ap (λ (b : Bool). record { cursor = line.cursor; breaks = b }) (or_assoc line.breaks x y)

-- the next piece
next-piece : (line : Line) (bs : List Answer) (a : Answer) (l : ℕ) (after : List Turn)
    → slice_get (placements line (nodes bs ++ Turn.piece a l ∷ after)) 0 ≡ Some (placed (asked line (asks (bs ++ a ∷ []))) a.column)
next-piece line [] a l after = ap (λ (b : Bool). Some (placed (asked line b) a.column)) (sym (or-false a.breaks))
next-piece line (b ∷ bs) a l after =
    next-piece (asked line b.breaks) bs a l after
    ∙ ap (λ (m : Line). Some (placed m a.column)) (asked_more line b.breaks (asks (bs ++ a ∷ [])))

later-piece : (line : Line) (before : List Turn) (b : Answer) (m : ℕ) (rest : List Turn)
    → slice_get (placements line (before ++ Turn.piece b m ∷ rest)) (suc (pieces before)) ≡ slice_get
    (placements (behind b.column m) rest) 0
later-piece line [] b m rest = refl
later-piece line (Turn.node a ∷ before) b m rest = later-piece (asked line a.breaks) before b m rest
later-piece line (Turn.piece a l ∷ before) b m rest = later-piece (behind a.column l) before b m rest

opens_first : (c : ℕ) (x : Bool) → placed (asked start x) c ≡ record { column = c; opens_line = false }
opens_first c x = ap (λ (b : Bool). record { column = c; opens_line = b }) (ap₂ ◌||◌ (leb-suc-zero c) (and-false x))

opens_later : (c d m : ℕ) (x : Bool) → placed (asked (behind d m) x) c ≡ record { column = c; opens_line = x || ltb c (d + m + 1) }
opens_later c d m x =
    let some : ltb 0 (d + m + 1) ≡ true = ap (ltb 0) (add-one (d + m)) ∙ leb-suc-suc 0 (d + m) ∙ leb-zero (d + m) in
    ap (λ (b : Bool). record { column = c; opens_line = b })
    (ap (λ (b : Bool). ltb c (d + m + 1) || (x && b)) some ∙ ap (λ (b : Bool). ltb c (d + m + 1) || b) (and-true x)
    ∙ or_comm (ltb c (d + m + 1)) x)

pub placements_break : (ns : List Turn) → Breaks ns (placements start ns)
placements_break ns = record {
  first = λ bs a l after is.
      ap (λ (ts : List Turn). slice_get (placements start ts) 0) is
      ∙ next-piece start bs a l after
      ∙ ap Some (opens_first a.column (asks (bs ++ a ∷ [])));
  later = λ before b m bs a l after is.
      ap (λ (ts : List Turn). slice_get (placements start ts) (suc (pieces before))) is
      ∙ later-piece start before b m (nodes bs ++ Turn.piece a l ∷ after)
      ∙ next-piece (behind b.column m) bs a l after
      ∙ ap Some (opens_later a.column b.column m (asks (bs ++ a ∷ [])));
}

module _ (G : Model) (P : Question → Answer) where
  -- what is laid out has turns
  pub lays_turns : {line : Line} {ss : List Slot} {rs ls : List ℕ} {out : Result (List Placement) Fault} → Lays G P line ss rs ls out
      → (ps : List Placement) → out ≡ Ok ps → (ns : List Turn) × Turns G P line.cursor ss rs ls ns
  lays_turns Lays.end ps e = ([], Turns.none)
  lays_turns (Lays.deep high) ps e = cc
  lays_turns (Lays.piece {l = l} {a = a} {out = out} is low symbol rest all) ps e =
      let q = prefixed_ok _ out ps (sym all ∙ e) in
      let t = lays_turns rest q.0 q.1 in
      (Turn.piece a l ∷ t.0, Turns.piece is symbol t.1)
  lays_turns (Lays.node {a = a} is low symbol known rest) ps e =
      let t = lays_turns rest ps e in
      (Turn.node a ∷ t.0, Turns.node is symbol known t.1)

  -- and is what these turns place
  pub lays_places : {line : Line} {ss : List Slot} {rs ls : List ℕ} {out : Result (List Placement) Fault} {ns : List Turn}
      → Lays G P line ss rs ls out → Turns G P line.cursor ss rs ls ns → (ps : List Placement) → out ≡ Ok ps → ps ≡ placements line ns
  lays_places Lays.end Turns.none ps e = cc
  lays_places (Lays.deep high) turns ps e = cc
  lays_places {line = line} (Lays.piece {ss = ss} {rs = rs} {ls = ls} {l = l} {a = a} {out = out} is low symbol rest all)
      (Turns.piece {a = b} {ns = ns} is2 symbol2 turns) ps e =
      let q = prefixed_ok _ out ps (sym all ∙ e) in
      let same : b ≡ a = is2 ∙ sym is in
      let again = subst (λ (c : Answer). Turns G P (c.column + l + 1) ss rs ls ns) same turns in
      let tail = lays_places rest again q.0 q.1 in
      q.2 ∙ ap (λ (us : List Placement). placed (asked line a.breaks) a.column ∷ us) tail
      ∙ ap (λ (c : Answer). placements line (Turn.piece c l ∷ ns)) (sym same)
  lays_places (Lays.piece {s = s} {t = t} is low symbol rest all) (Turns.node {rule = rule} is2 symbol2 known turns) ps e =
      absurd (not_both_kinds s.item.symbol t rule.left symbol symbol2)
  lays_places (Lays.node {s = s} {rule = rule} is low symbol known rest) (Turns.piece {t = t} is2 symbol2 turns) ps e =
      absurd (not_both_kinds s.item.symbol t rule.left symbol2 symbol)
  lays_places {line = line} (Lays.node {ss = ss} {rs = rs} {ls = ls} {r = r} {rule = rule} {a = a} is low symbol known rest)
      (Turns.node {rule = other} {a = b} {ns = ns} is2 symbol2 known2 turns) ps e =
      let same : b ≡ a = is2 ∙ sym is in
      let y = same_some (slice_get G.rules r) other rule known2 known in
      let again = subst (λ (c : Answer). Turns G P line.cursor (slots r c.column 0 (listed other.items) ++ ss) rs ls ns) same
      turns in
      let twice = subst (λ (x : Rule). Turns G P line.cursor (slots r a.column 0 (listed x.items) ++ ss) rs ls ns) y again in
      lays_places rest twice ps e ∙ ap (λ (c : Answer). placements line (Turn.node c ∷ ns)) (sym same)
