-- The same laws of what laying out a held tree answers.
--   AnswerReads     a held tree that was laid out is a reading of its pieces in the columns where they were put
--   AnswerExact     by the minimal policy a held tree that fits the grammar is laid out just where some columns fit it
--   AnswerBreaks    lines break where and only where they should
use Rattle.std.specs.Prelude.{◌≡◌, ℕ, ◌≤◌, true, List, is_ok, Some, Ok, Result}
use Rattle.faults.specs.declared.fault.Fault.{Fault}
use Rattle.grammar.specs.Model.{Model}
use Rattle.policy.specs.declared.question.Question.{Question}
use Rattle.policy.specs.declared.question.Answer.{Answer}
use Rattle.policy.specs.Policies.{minimal}
use Rattle.tree.specs.declared.piece.PieceRecord.{PieceRecord}
use Rattle.tree.specs.Forest as numbers
use Rattle.tree.specs.Pieces.{longest}
use Rattle.tree.specs.Terminals.{terminals_of}
use Rattle.layout.specs.declared.placement.Layout.{Layout}
use Rattle.layout.specs.Layouts.{Laid, lengths, listed}
use Rattle.fitting.specs.Fitting.{Fittable, Obeys, ReadsAs, columns_of}
use Rattle.fitting.specs.Turns.{Breaks, Turn, TurnsOut}

abbrev pub AnswerReads : Type 0
AnswerReads =
    (G : Model) (P : Question → Answer) → Obeys P
    → (bytes : List ℕ) (pieces : List PieceRecord) (rules : List ℕ) (l : Layout) → longest pieces ≤ 32
    → Laid G P bytes pieces rules (Ok l)
    → (ts : List ℕ) × (terminals_of G bytes pieces ≡ Some ts) × ReadsAs G rules ts (columns_of (listed l))

abbrev pub AnswerExact : Type 0
AnswerExact =
    (G : Model) (bytes : List ℕ) (pieces : List PieceRecord) (rules ts : List ℕ) (r : Result Layout Fault) → longest pieces ≤ 32
    → terminals_of G bytes pieces ≡ Some ts → numbers.Tree G rules ts → Laid G minimal bytes pieces rules r
    → (is_ok r ≡ true → Fittable G rules ts) × (Fittable G rules ts → is_ok r ≡ true)

abbrev pub AnswerBreaks : Type 0
AnswerBreaks =
    (G : Model) (P : Question → Answer) (bytes : List ℕ) (pieces : List PieceRecord) (rules : List ℕ) (l : Layout)
    → Laid G P bytes pieces rules (Ok l)
    → (ns : List Turn) × TurnsOut G P rules (lengths pieces) ns × Breaks ns (listed l)
