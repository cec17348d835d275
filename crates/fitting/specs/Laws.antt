-- Laws of laying out.
--   LaidFits        the columns that laying out gives fit the tree, with column 0 at its top
--   LayoutReads     so the tree is a reading of what was laid out
--   OnlyDeep        laying out refuses nothing but an item that is too deep
--   MinimalExact    the minimal policy lays out a tree just where some columns fit it: where it refuses, none do
--   LinesBreak      lines break where and only where they should
use Rattle.std.specs.Prelude.{◌≡◌, ℕ, List, Ok, Err}
use Rattle.faults.specs.declared.fault.Fault.{Fault}
use Rattle.faults.specs.declared.fault.Fault.TheVariants.{TooDeep}
use Rattle.grammar.specs.Model.{Model}
use Rattle.policy.specs.declared.question.Question.{Question}
use Rattle.policy.specs.declared.question.Answer.{Answer}
use Rattle.policy.specs.Policies.{minimal}
use Rattle.tree.specs.Forest as numbers
use Rattle.layout.specs.declared.placement.Placement.{Placement}
use Rattle.layout.specs.Layouts.{LaysOut}
use Rattle.chart.specs.Trees.{Tree}
use Rattle.chart.specs.Fits.{Fits}
use Rattle.fitting.specs.Fitting.{Fittable, Obeys, ReadsAs, Short, TreeOf, columns_of}
use Rattle.fitting.specs.Turns.{Breaks, Turn, TurnsOut}

abbrev pub LaidFits : Type 0
LaidFits =
    (G : Model) (P : Question → Answer) → Obeys P
    → (rules ts ls : List ℕ) (places : List Placement) → Short ls → LaysOut G P rules ls (Ok places)
    → (t : Tree) (A : ℕ) → TreeOf G rules ts t A → Fits G (columns_of places) t 0 0

abbrev pub LayoutReads : Type 0
LayoutReads =
    (G : Model) (P : Question → Answer) → Obeys P
    → (rules ts ls : List ℕ) (places : List Placement) → Short ls → LaysOut G P rules ls (Ok places)
    → numbers.Tree G rules ts → ReadsAs G rules ts (columns_of places)

abbrev pub OnlyDeep : Type 0
OnlyDeep =
    (G : Model) (P : Question → Answer) (rules ls : List ℕ) (f : Fault) → LaysOut G P rules ls (Err f)
    → (rule : ℕ) × (index : ℕ) × (f ≡ TooDeep rule index)

abbrev pub MinimalExact : Type 0
MinimalExact =
    (G : Model) (rules ts ls : List ℕ) → Short ls → numbers.Tree G rules ts
    → ((places : List Placement) → LaysOut G minimal rules ls (Ok places) → Fittable G rules ts)
    × ((f : Fault) → LaysOut G minimal rules ls (Err f) → Fittable G rules ts → ⊥)

abbrev pub LinesBreak : Type 0
LinesBreak =
    (G : Model) (P : Question → Answer) (rules ls : List ℕ) (places : List Placement) → LaysOut G P rules ls (Ok places)
    → ((ns : List Turn) × TurnsOut G P rules ls ns) × ((ns : List Turn) → TurnsOut G P rules ls ns → Breaks ns places)
