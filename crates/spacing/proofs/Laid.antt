-- Pieces that were laid out stand apart.
use Rattle.std.proofs.Common.{◌≡◌, ℕ, ◌+◌, ◌≤◌, false, ◌&&◌, ltb, List, [], ◌∷◌, Ok, Result, sym, refl, ◌∙◌, subst, arith}
use Rattle.std.proofs.lemmas.Bool.{and_right, le-ltb, ltb-false, or_from, or_parts}
use Rattle.faults.specs.declared.fault.Fault.{Fault}
use Rattle.grammar.specs.Model.{Model}
use Rattle.policy.specs.declared.question.Question.{Question}
use Rattle.policy.specs.declared.question.Answer.{Answer}
use Rattle.tree.specs.declared.piece.PieceRecord.{PieceRecord}
use Rattle.tree.specs.Slots.{Slot}
use Rattle.layout.specs.declared.line.Line.{Line}
use Rattle.layout.specs.declared.placement.Placement.{Placement}
use Rattle.layout.specs.Layouts.{Lays, LaysOut, lengths}
use Rattle.layout.specs.Layouts.Lays.{end, deep, piece, node}
use Rattle.layout.specs.Lines.{asked, placed}
use Rattle.layout.proofs.Outcomes.{prefixed_ok}
use Rattle.layout.specs.Standing.{standing}
use Rattle.spacing.specs.Spacing.{Apart}

-- a piece goes to a new line where the cursor is past its column; at cursor 0 it never does
stays_behind : (line : Line) (column : ℕ) → (placed line column).opens_line ≡ false → line.cursor ≤ column
stays_behind line column e =
    ltb-false column line.cursor (or_parts (ltb column line.cursor) (line.breaks && ltb 0 line.cursor) e).0

first_stays : (line : Line) (column : ℕ) → line.cursor ≡ 0 → (placed line column).opens_line ≡ false
first_stays line column e =
    or_from (ltb column line.cursor) (line.breaks && ltb 0 line.cursor) (le-ltb column line.cursor (omega arith))
    (and_right line.breaks (ltb 0 line.cursor) (le-ltb 0 line.cursor (omega arith)))

pub lays_apart : {G : Model} {P : Question → Answer} {line : Line} {ss : List Slot} {rs ls : List ℕ}
    {out : Result (List Placement) Fault} → Lays G P line ss rs ls out → (places : List Placement) (ps : List PieceRecord)
    → out ≡ Ok places → lengths ps ≡ ls → Apart line.cursor (standing ps places)
lays_apart end places [] e n = tt
lays_apart end places (p ∷ ps) e n = cc
lays_apart (deep high) places ps e n = cc
lays_apart (node is column symbol known lays) places ps e n = lays_apart lays places ps e n
lays_apart (piece is column symbol lays all) places [] e n = tt
lays_apart (piece {line = line} {l = l} {a = a} {out = out} is column symbol lays all) places (p ∷ ps) e n =
    let here = asked line a.breaks in
    let o = prefixed_ok _ out places (sym all ∙ e) in
    let long : l ≡ p.length = cc in
    let rest = lays_apart lays o.0 ps o.1 (cc) in
    let rest' : Apart (a.column + p.length + 1) (standing ps o.0)
    = subst (λ (k : ℕ). Apart (a.column + k + 1) (standing ps o.0)) long rest in
    subst (λ (xs : List Placement). Apart line.cursor (standing (p ∷ ps) xs)) (sym o.2)
    (column, stays_behind here a.column, first_stays here a.column, rest')

pub laid_apart : (G : Model) (P : Question → Answer) (rules : List ℕ) (ps : List PieceRecord) (places : List Placement)
    → LaysOut G P rules (lengths ps) (Ok places) → Apart 0 (standing ps places)
laid_apart G P [] ps places lays = absurd lays
laid_apart G P (r ∷ rs) ps places (rule, known, lays) = lays_apart lays places ps refl refl
