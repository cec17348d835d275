-- Laying a tree out, one item after another.
use Rattle.std.proofs.Common.{◌≡◌, ℕ, ◌<◌, ◌≤◌, List, [], ◌∷◌, ◌++◌, length, get_or, drop, Ok, Err, Option, Result, sym, refl, ap, ◌∙◌}
use Rattle.std.proofs.Common.{subst, arith}
use Rattle.std.proofs.lemmas.List.{append_assoc, append-nil, drop_all, drop_more, length-drop, length-map, length-append}
use Rattle.faults.specs.declared.fault.Fault.{Fault}
use Rattle.faults.specs.declared.fault.Fault.TheVariants.{TooDeep}
use Rattle.grammar.specs.declared.rule.Symbol.{Symbol}
use Rattle.grammar.specs.declared.rule.Symbol.TheVariants.{Terminal, Nonterminal}
use Rattle.grammar.specs.Several as several
use Rattle.grammar.specs.Model.{Model}
use Rattle.policy.specs.declared.question.Question.{Question}
use Rattle.policy.specs.declared.question.Answer.{Answer}
use Rattle.grammar.specs.declared.rule.Expansion.{Expansion}
use Rattle.tree.specs.declared.piece.PieceRecord.{PieceRecord}
use Rattle.tree.specs.declared.walk.Walk.{Walk}
use Rattle.tree.specs.declared.walk.Step.{Step}
use Rattle.tree.specs.Slots.{Slot, slots, entered_slots}
use Rattle.tree.specs.Terminals.{listed}
use Rattle.tree.specs.Walks.{Came, Ended, Takes, pending, rules_left, slot_of, terminals_left, waiting_slots}
use Rattle.arrayvec.specs.ArrayVec.{ArrayVec}
use Rattle.layout.specs.declared.line.Line.{Line}
use Rattle.layout.specs.declared.placement.Placement.{Placement}
use Rattle.layout.specs.declared.placer.Placer.{Placer}
use Rattle.layout.specs.Layouts.{Lays, LaysOut, lengths, prefixed}
use Rattle.layout.specs.Layouts.Lays.{end, deep, piece, node}
use Rattle.layout.specs.Lines.{asked, placed}
use Rattle.layout.specs.Placers.{Puts, Within}
use Rattle.layout.specs.Questions.{answer_of}

prefixed_more : (ps : List Placement) (p : Placement) (out : Result (List Placement) Fault)
    → prefixed ps (prefixed (p ∷ []) out) ≡ prefixed (ps ++ p ∷ []) out
prefixed_more ps p (Ok qs) = ap Ok (sym (append_assoc ps (p ∷ []) qs))
prefixed_more ps p (Err f) = refl

module _ {X : Type 0} (G : Model) (P : Question → Answer) (rules ls : List ℕ) where
  -- whatever comes out of the items to come, behind the placements so far it comes out of the whole tree
  abbrev pub SoFar : Walk X → ℕ → Placer → Type 0
  SoFar w column p = (out : Result (List Placement) Fault)
      → Lays G P p.line (pending w column) (rules_left w) (drop w.piece ls) out
      → LaysOut G P rules ls (prefixed p.list.items out)

  module _ (w v : Walk X) (s : Step) (a : Answer) (before after : Placer) (is : a ≡ answer_of P before.line.cursor (slot_of s))
      (shallow : a.column ≤ 63) where
    -- one item more, by what it covers
    by : (u : Symbol) → s.item.symbol ≡ u → Takes G u w v → Within u w.piece (length ls) → Puts u a ls w.piece before after
        → ((out : Result (List Placement) Fault)
        → Lays G P before.line (slot_of s ∷ waiting_slots v) (rules_left w) (drop w.piece ls) out
        → LaysOut G P rules ls (prefixed before.list.items out)) → SoFar v a.column after
    by (Terminal t) symbol (terminals, rules-same, entered, number) here (line, list) so_far out lays =
        let pl = placed (asked before.line a.breaks) a.column in
        let n : drop w.piece ls ≡ get_or ls w.piece 0 ∷ drop v.piece ls = drop_more ls w.piece 0 here
        ∙ ap (λ (k : ℕ). get_or ls w.piece 0 ∷ drop k ls) (sym number) in
        let b = subst (λ (o : Option Expansion). Lays G P after.line (entered_slots o a.column ++ waiting_slots v) (rules_left v)
        (drop v.piece ls) out) entered lays in
        let d = subst (λ (rs : List ℕ). Lays G P after.line (waiting_slots v) rs (drop v.piece ls) out) rules-same b in
        let e = subst (λ (l : Line). Lays G P l (waiting_slots v) (rules_left w) (drop v.piece ls) out) line d in
        let f : Lays G P before.line (slot_of s ∷ waiting_slots v) (rules_left w) (get_or ls w.piece 0 ∷ drop v.piece ls)
        (prefixed (pl ∷ []) out) = piece is shallow symbol e refl in
        let h = subst (λ (ks : List ℕ). Lays G P before.line (slot_of s ∷ waiting_slots v) (rules_left w) ks
        (prefixed (pl ∷ []) out)) (sym n) f in
        subst (LaysOut G P rules ls) (prefixed_more before.list.items pl out
        ∙ ap (λ (ps : List Placement). prefixed ps out) (sym list)) (so_far (prefixed (pl ∷ []) out) h)
    by (Nonterminal n) symbol (e, entered, known, rules-on, terminals, number) here (line, list) so_far out lays =
        let b = subst (λ (o : Option Expansion). Lays G P after.line (entered_slots o a.column ++ waiting_slots v) (rules_left v)
        (drop v.piece ls) out) entered lays in
        let d = subst (λ (k : ℕ). Lays G P after.line (slots e.rule a.column 0 (several.listed e.items) ++ waiting_slots v)
        (rules_left v) (drop k ls) out) number b in
        let f = subst (λ (l : Line). Lays G P l (slots e.rule a.column 0 (several.listed e.items) ++ waiting_slots v)
        (rules_left v) (drop w.piece ls) out) line d in
        let h : Lays G P before.line (slot_of s ∷ waiting_slots v) (e.rule ∷ rules_left v) (drop w.piece ls) out
        = node is shallow symbol known f in
        let k = subst (λ (rs : List ℕ). Lays G P before.line (slot_of s ∷ waiting_slots v) rs (drop w.piece ls) out)
        (sym rules-on) h in
        subst (λ (l : ArrayVec Placement). LaysOut G P rules ls (prefixed l.items out)) (sym list) (so_far out k)

    pub one_more : (column : ℕ) → Came G column w v s → Within s.item.symbol w.piece (length ls)
        → Puts s.item.symbol a ls w.piece before after → SoFar w column before → SoFar v a.column after
    one_more column came here puts so_far =
        by s.item.symbol refl came.takes here puts
        (λ out lays. so_far out (subst (λ (ss : List Slot). Lays G P before.line ss (rules_left w) (drop w.piece ls) out)
        (sym came.slot) lays))

  -- an item that is too deep
  pub too_deep : (w v : Walk X) (s : Step) (column : ℕ) (p : Placer) → Came G column w v s
      → 63 < (answer_of P p.line.cursor (slot_of s)).column → SoFar w column p
      → LaysOut G P rules ls (Err (TooDeep s.rule s.index))
  too_deep w v s column p came high so_far =
      so_far (Err (TooDeep s.rule s.index))
      (subst (λ (ss : List Slot). Lays G P p.line ss (rules_left w) (drop w.piece ls) (Err (TooDeep s.rule s.index)))
      (sym came.slot) (deep high))

  -- the end
  pub all_laid : (w : Walk X) (column : ℕ) (p : Placer) → Ended column w → length (listed w.terminals.now) ≡ length ls
      → w.piece ≤ length ls → SoFar w column p → LaysOut G P rules ls (Ok p.list.items)
  all_laid w column p ended same within so_far =
      let d = length-drop w.piece (listed w.terminals.now) in
      let z : length (terminals_left w) ≡ 0 = ap length ended.terminals in
      let none : drop w.piece ls ≡ [] = drop_all w.piece ls (omega arith) in
      let a = subst (λ (ss : List Slot). Lays G P p.line ss [] [] (Ok [])) (sym ended.slots) end in
      let b = subst (λ (rs : List ℕ). Lays G P p.line (pending w column) rs [] (Ok [])) (sym ended.rules) a in
      let e = subst (λ (ks : List ℕ). Lays G P p.line (pending w column) (rules_left w) ks (Ok [])) (sym none) b in
      subst (LaysOut G P rules ls) (ap Ok (append-nil p.list.items)) (so_far (Ok []) e)

-- an item that covers a piece covers one that is there
pub piece-within : {X : Type 0} (G : Model) (w v : Walk X) (n : ℕ) (u : Symbol) → Takes G u w v
    → length (listed w.terminals.now) ≡ n → Within u w.piece n
piece-within G w v n (Terminal t) (terminals, rules, entered, number) same =
    let d = length-drop w.piece (listed w.terminals.now) in
    let l = ap length terminals in
    omega arith
piece-within G w v n (Nonterminal a) takes same = tt

-- and leaves the number of pieces that came within the count
pub piece-below : {X : Type 0} (G : Model) (w v : Walk X) (n : ℕ) (u : Symbol) → Takes G u w v
    → length (listed w.terminals.now) ≡ n → w.piece ≤ n → v.piece ≤ n
piece-below G w v n (Terminal t) (terminals, rules, entered, number) same within =
    let d = length-drop w.piece (listed w.terminals.now) in
    let l = ap length terminals in
    omega arith
piece-below G w v n (Nonterminal a) (e, entered, known, rules, terminals, number) same within = omega arith

-- placing adds the placement of each piece that comes
pub puts_long : {X : Type 0} (G : Model) (w v : Walk X) (u : Symbol) (a : Answer) (ls : List ℕ) (before after : Placer) → Takes G u w v
    → Puts u a ls w.piece before after → length before.list.items ≡ w.piece → length after.list.items ≡ v.piece
puts_long G w v (Terminal t) a ls before after (terminals, rules, entered, number) (line, list) so_far =
    let l = ap length list in
    let m = length-append before.list.items (placed (asked before.line a.breaks) a.column ∷ []) in
    omega arith
puts_long G w v (Nonterminal n) a ls before after (e, entered, known, rules, terminals, number) (line, list) so_far =
    let l = ap (λ (x : ArrayVec Placement). length x.items) list in
    omega arith

pub lengths-long : (ps : List PieceRecord) → length (lengths ps) ≡ length ps
lengths-long ps = length-map ps (λ (p : PieceRecord). p.length)
