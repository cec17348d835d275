-- What holds of all pieces that are laid out, under every grammar and policy.
--   LaysApart       they stand apart
--   FallsAgain      the text of pieces that stand apart falls into just these pieces, in their columns
--   ReadsAgain      and, where the grammar has a terminal for each, it is accepted with just their tokens
--   LaidReads       so the text of a tree that is laid out is accepted with just the tokens of its pieces
--   AcceptedAlone   the tokens of an accepted text are each one piece by themselves
--   Longest         no text of pieces that stand apart and keep the limits is longer, and one is as long
use Rattle.std.specs.Prelude.{◌≡◌, ℕ, ◌≤◌, true, List, length, Some, Ok}
use Rattle.std.specs.List.{AllByRecursion}
use Rattle.pieces.specs.Alone.{one_piece}
use Rattle.pieces.specs.Pieces.{Found, Cut, into}
use Rattle.grammar.specs.Model.{Model}
use Rattle.policy.specs.declared.question.Question.{Question}
use Rattle.policy.specs.declared.question.Answer.{Answer}
use Rattle.text.specs.declared.token.Token.{Token}
use Rattle.text.specs.Verdict.{accepted, Judged}
use Rattle.tree.specs.declared.piece.PieceRecord.{PieceRecord}
use Rattle.tree.specs.Pieces.{total, all_one_piece}
use Rattle.tree.specs.Terminals.{terminals_of}
use Rattle.layout.specs.declared.placement.Placement.{Placement}
use Rattle.layout.specs.declared.placement.Layout.{Layout}
use Rattle.layout.specs.Layouts.{Laid, LaysOut, lengths, listed}
use Rattle.layout.specs.Standing.{standing}
use Rattle.layout.specs.Text.{text}
use Rattle.spacing.specs.Again.{Again, ReadsAsPieces, bytes_at}
use Rattle.spacing.specs.Spacing.{Apart, Limits}

abbrev pub LaysApart : Type 0
LaysApart = (G : Model) (P : Question → Answer) (rules : List ℕ) (ps : List PieceRecord) (places : List Placement)
    → LaysOut G P rules (lengths ps) (Ok places) → Apart 0 (standing ps places)

abbrev pub FallsAgain : Type 0
FallsAgain = (ps : List PieceRecord) (bytes : List ℕ) → Apart 0 ps → all_one_piece bytes ps ≡ true → total ps ≡ length bytes
    → (fs : List Found) × Cut (text 0 ps bytes) (into fs) × Again bytes ps fs

abbrev pub ReadsAgain : Type 0
ReadsAgain = (G : Model) (ps : List PieceRecord) (bytes terminals : List ℕ) → Apart 0 ps → Limits bytes ps → 1 ≤ length ps
    → terminals_of G bytes ps ≡ Some terminals → ReadsAsPieces G bytes ps

abbrev pub LaidReads : Type 0
LaidReads = (G : Model) (P : Question → Answer) (bytes : List ℕ) (ps : List PieceRecord) (rules : List ℕ) (l : Layout)
    → Laid G P bytes ps rules (Ok l) → Limits bytes ps → ReadsAsPieces G bytes (standing ps (listed l))

abbrev pub AcceptedAlone : Type 0
AcceptedAlone = (G : Model) (text : List ℕ) (ts : List Token) → Judged G text (accepted ts)
    → AllByRecursion (λ t. one_piece (bytes_at text t) ≡ true) ts

abbrev pub Longest : ℕ → Type 0
Longest n =
    ((ps : List PieceRecord) (bytes : List ℕ) → Apart 0 ps → Limits bytes ps → length (text 0 ps bytes) ≤ n)
    × ((ps : List PieceRecord) × (bytes : List ℕ) × Apart 0 ps × Limits bytes ps × (length (text 0 ps bytes) ≡ n))
