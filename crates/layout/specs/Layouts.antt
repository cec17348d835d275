-- How a tree is laid out.
--   listed     the placements of a layout, in the order of the pieces
--   start      the line before the first piece
--   prefixed   placements in front of what comes out behind them
--   Lays       laying the items to come out, with the rule numbers of the nodes and the lengths of the pieces to come,
--              gives placements for those pieces, or finds an item too deep
--   LaysOut    the same for a whole tree, whose top stands in column 0
--   ComesOut   just this comes out of laying a whole tree out
--   outcome    an answer as placements or a fault
--   Laid       the answer to how a tree is laid out: refused where it breaks a rule of the grammar, else what comes out
use Rattle.std.specs.Prelude.{◌≡◌, ℕ, ◌<◌, ◌≤◌, false, ◌⊎◌, List, [], ◌∷◌, ◌++◌, map, Some, Ok, Err, Result}
use Rattle.std.specs.List.{slice_get}
use Rattle.faults.specs.declared.fault.Fault.{Fault}
use Rattle.faults.specs.declared.fault.Fault.TheVariants.{GrammarMismatch, TooDeep}
use Rattle.grammar.specs.declared.rule.Symbol.TheVariants.{Terminal, Nonterminal}
use Rattle.grammar.specs.declared.rule.Rule.{Rule}
use Rattle.grammar.specs.Several as several
use Rattle.grammar.specs.Model.{Model}
use Rattle.policy.specs.declared.question.Question.{Question}
use Rattle.policy.specs.declared.question.Answer.{Answer}
use Rattle.tree.specs.declared.piece.PieceRecord.{PieceRecord}
use Rattle.tree.specs.Fits.{Fits}
use Rattle.tree.specs.Slots.{Slot, slots}
use Rattle.layout.specs.declared.line.Line.{Line}
use Rattle.layout.specs.declared.placement.Placement.{Placement}
use Rattle.layout.specs.declared.placement.Layout.{Layout}
use Rattle.layout.specs.Lines.{asked, behind, placed}
use Rattle.layout.specs.Questions.{answer_of}

abbrev pub listed : Layout → List Placement
listed l = l.list.items

abbrev pub start : Line
start = record { cursor = 0; breaks = false }

abbrev pub prefixed : List Placement → Result (List Placement) Fault → Result (List Placement) Fault
prefixed ps (Ok qs) = Ok (ps ++ qs)
prefixed ps (Err f) = Err f

pub data Lays (G : Model) (P : Question → Answer) : Line → List Slot → List ℕ → List ℕ → Result (List Placement) Fault → Type 0 where
  end : {line : Line} → Lays G P line [] [] [] (Ok [])
  deep : {line : Line} {s : Slot} {ss : List Slot} {rs ls : List ℕ}
      → 63 < (answer_of P line.cursor s).column
      → Lays G P line (s ∷ ss) rs ls (Err (TooDeep s.rule s.index))
  piece : {line : Line} {s : Slot} {ss : List Slot} {rs ls : List ℕ} {l t : ℕ} {a : Answer} {out all : Result (List Placement) Fault}
      → a ≡ answer_of P line.cursor s
      → a.column ≤ 63
      → s.item.symbol ≡ Terminal t
      → Lays G P (behind a.column l) ss rs ls out
      → all ≡ prefixed (placed (asked line a.breaks) a.column ∷ []) out
      → Lays G P line (s ∷ ss) rs (l ∷ ls) all
  node : {line : Line} {s : Slot} {ss : List Slot} {rs ls : List ℕ} {r : ℕ} {rule : Rule} {a : Answer} {out : Result (List Placement) Fault}
      → a ≡ answer_of P line.cursor s
      → a.column ≤ 63
      → s.item.symbol ≡ Nonterminal rule.left
      → slice_get G.rules r ≡ Some rule
      → Lays G P (asked line a.breaks) (slots r a.column 0 (several.listed rule.items) ++ ss) rs ls out
      → Lays G P line (s ∷ ss) (r ∷ rs) ls out

abbrev pub LaysOut : Model → (Question → Answer) → List ℕ → List ℕ → Result (List Placement) Fault → Type 0
LaysOut G P [] ls out = ⊥
LaysOut G P (r ∷ rs) ls out =
    (rule : Rule) × (slice_get G.rules r ≡ Some rule) × Lays G P start (slots r 0 0 (several.listed rule.items)) rs ls out

pub record ComesOut (G : Model) (P : Question → Answer) (rules ls : List ℕ) (out : Result (List Placement) Fault) : Type 0 where
  pub lays : LaysOut G P rules ls out
  pub only : (other : Result (List Placement) Fault) → LaysOut G P rules ls other → other ≡ out

abbrev pub outcome : Result Layout Fault → Result (List Placement) Fault
outcome (Ok l) = Ok (listed l)
outcome (Err f) = Err f

-- the lengths of pieces
abbrev pub lengths : List PieceRecord → List ℕ
lengths ps = map (λ (p : PieceRecord). p.length) ps

abbrev pub Laid : Model → (Question → Answer) → List ℕ → List PieceRecord → List ℕ → Result Layout Fault → Type 0
Laid G P bytes pieces rules (Ok l) = Fits G bytes pieces rules × ComesOut G P rules (lengths pieces) (Ok (listed l))
Laid G P bytes pieces rules (Err f) =
    ((f ≡ GrammarMismatch) × (Fits G bytes pieces rules → ⊥))
    ⊎ (Fits G bytes pieces rules × ComesOut G P rules (lengths pieces) (Err f))
