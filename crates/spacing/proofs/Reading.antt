-- The text of pieces that stand apart is read again as just these pieces.
use Rattle.std.proofs.Common.{◌≡◌, ℕ, ◌≤◌, ◌&&◌, List, [], ◌∷◌, length, take, drop, Some, Ok, sym, refl, ap, ◌∙◌, arith}
use Rattle.pieces.specs.Alone.{one_piece}
use Rattle.pieces.specs.Pieces.{into}
use Rattle.grammar.specs.Model.{Model, terminal_of}
use Rattle.policy.specs.declared.question.Question.{Question}
use Rattle.policy.specs.declared.question.Answer.{Answer}
use Rattle.text.specs.Verdict.{accepted, judged, tokens_of}
use Rattle.tree.specs.declared.piece.PieceRecord.{PieceRecord}
use Rattle.tree.specs.Forest.{Tree}
use Rattle.tree.specs.Pieces.{all_one_piece}
use Rattle.tree.specs.Terminals.{before, terminals_of}
use Rattle.tree.proofs.Forests.{covers, some-items}
use Rattle.tree.proofs.Naming.{named_long}
use Rattle.layout.specs.declared.placement.Placement.{Placement}
use Rattle.layout.specs.declared.placement.Layout.{Layout}
use Rattle.layout.specs.Layouts.{Laid, listed}
use Rattle.layout.specs.Standing.{standing}
use Rattle.layout.specs.Text.{text}
use Rattle.layout.proofs.Standing.{length-standing, longest-standing, total-standing}
use Rattle.spacing.specs.Again.{Retold, ReadsAsPieces}
use Rattle.spacing.specs.Spacing.{Apart, Limits}
use Rattle.spacing.proofs.Accepted.{in_place}
use Rattle.spacing.proofs.Cuts.{apart_cut}
use Rattle.spacing.proofs.Judges.{pieces-judged, tokens-retold}
use Rattle.spacing.proofs.Laid.{laid_apart}
use Rattle.spacing.proofs.Retelling.{retold-bytes, retold-columns, retold-lengths, retold-terminals}
use Rattle.spacing.proofs.Short.{apart_short}

pub apart_judged : (G : Model) (ps : List PieceRecord) (bytes terminals : List ℕ) → Apart 0 ps → Limits bytes ps → 1 ≤ length ps
    → terminals_of G bytes ps ≡ Some terminals → ReadsAsPieces G bytes ps
apart_judged G ps bytes terminals apart limits some names =
    let t = text 0 ps bytes in
    let short : length t ≤ 12288 = apart_short ps bytes apart limits.few limits.short limits.whole in
    let k = apart_cut ps bytes apart limits.alone limits.whole in
    let fs = k.0 in
    let ts = tokens_of G fs in
    let at = in_place t k.1.1 refl in
    let told : Retold G t bytes ps ts
    = tokens-retold G t ps fs bytes terminals k.2 at apart limits.short limits.whole names in
    let verdict : judged G fs ≡ accepted ts
    = pieces-judged G t ps fs bytes terminals k.2 at apart limits.short limits.whole names some limits.few in
    record {
      short = short;
      found = fs;
      cut = k.1;
      again = k.2;
      tokens = ts;
      judged = record { long = λ long. absurd (omega arith); cut = λ _. (into fs, k.1, sym verdict) };
      retold = told;
      lengths = retold-lengths G t bytes ps ts told;
      columns = retold-columns G t bytes ps ts told;
      terminals = retold-terminals G t bytes ps ts told;
      bytes_same = retold-bytes G t bytes ps ts limits.whole told;
    }

-- pieces with their places are the pieces that they were
pub alone-standing : (bytes : List ℕ) (ps : List PieceRecord) (qs : List Placement)
    → all_one_piece bytes (standing ps qs) ≡ all_one_piece bytes ps
alone-standing bytes [] qs = refl
alone-standing bytes (p ∷ ps) [] = refl
alone-standing bytes (p ∷ ps) (q ∷ qs) = ap (◌&&◌ (one_piece (take p.length bytes))) (alone-standing (drop p.length bytes) ps qs)

pub terminals-standing : (G : Model) (bytes : List ℕ) (ps : List PieceRecord) (qs : List Placement)
    → terminals_of G bytes (standing ps qs) ≡ terminals_of G bytes ps
terminals-standing G bytes [] qs = refl
terminals-standing G bytes (p ∷ ps) [] = refl
terminals-standing G bytes (p ∷ ps) (q ∷ qs)
    = ap (before (terminal_of G (take p.length bytes))) (terminals-standing G (drop p.length bytes) ps qs)

pub limits-standing : (bytes : List ℕ) (ps : List PieceRecord) (qs : List Placement) → Limits bytes ps → Limits bytes (standing ps qs)
limits-standing bytes ps qs limits =
    let n = length-standing ps qs in
    let m = longest-standing ps qs in
    let few = limits.few in
    let short = limits.short in
    record {
      alone = alone-standing bytes ps qs ∙ limits.alone;
      whole = total-standing ps qs ∙ limits.whole;
      few = omega arith;
      short = omega arith;
    }

-- a tree has a piece
some-pieces : (G : Model) (rules terminals : List ℕ) → Tree G rules terminals → 1 ≤ length terminals
some-pieces G [] terminals tree = absurd tree
some-pieces G (r ∷ rs) terminals (rule, known, forest) =
    let a = covers forest in
    let b = some-items rule.items in
    omega arith

pub laid-reads : (G : Model) (P : Question → Answer) (bytes : List ℕ) (ps : List PieceRecord) (rules : List ℕ) (l : Layout)
    → Laid G P bytes ps rules (Ok l) → Limits bytes ps → ReadsAsPieces G bytes (standing ps (listed l))
laid-reads G P bytes ps rules l ((terminals, names, tree), out) limits =
    let qs = listed l in
    let a = some-pieces G rules terminals tree in
    let b = named_long G bytes ps terminals names in
    let c = length-standing ps qs in
    let apart = laid_apart G P rules ps qs out.lays in
    apart_judged G (standing ps qs) bytes terminals apart (limits-standing bytes ps qs limits) (omega arith)
    (terminals-standing G bytes ps qs ∙ names)
