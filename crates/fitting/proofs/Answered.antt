-- The laws of laying out, of what laying out a held tree answers.
use Rattle.std.proofs.Common.{◌≤◌, List, [], ◌∷◌, Ok, Err, refl, ⊎_elim, arith}
use Rattle.tree.specs.declared.piece.PieceRecord.{PieceRecord}
use Rattle.tree.specs.Pieces.{longest}
use Rattle.layout.specs.Layouts.{lengths, listed}
use Rattle.fitting.specs.Answers.{AnswerBreaks, AnswerExact, AnswerReads}
use Rattle.fitting.specs.Fitting.{Short}
use Rattle.fitting.proofs.Whole.{laid-reads, lines_break, minimal_exact}

pub short : (ps : List PieceRecord) → longest ps ≤ 32 → Short (lengths ps)
short [] h = tt
short (p ∷ ps) h = (omega arith, short ps (omega arith))

pub answer_reads : AnswerReads
answer_reads G P obeys bytes pieces rules l few (fits, comes) =
    let q = laid-reads G P obeys rules fits.0 (lengths pieces) (listed l) (short pieces few) comes.lays fits.2 in
    (fits.0, fits.1, q)

pub answer_exact : AnswerExact
answer_exact G bytes pieces rules ts (Ok l) few named tree (fits, comes) =
    let q = minimal_exact G rules ts (lengths pieces) (short pieces few) tree in
    (λ is. q.0 (listed l) comes.lays, λ fittable. refl)
answer_exact G bytes pieces rules ts (Err f) few named tree laid =
    let q = minimal_exact G rules ts (lengths pieces) (short pieces few) tree in (
      λ is. cc,
      λ fittable. absurd (⊎_elim (λ broken. broken.1 (ts, named, tree)) (λ deep. q.1 f deep.1.lays fittable) laid),
    )

pub answer_breaks : AnswerBreaks
answer_breaks G P bytes pieces rules l (fits, comes) =
    let q = lines_break G P rules (lengths pieces) (listed l) comes.lays in
    (q.0.0, q.0.1, q.1 q.0.0 q.0.1)
