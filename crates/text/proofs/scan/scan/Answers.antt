use Rattle.std.proofs.Common.{◌≡◌, ℕ, List, ◌≤◌, [], ◌∷◌, ◌++◌, length, Some, None, Ok, Option, sym, ap, ◌∙◌, subst, arith}
use Rattle.std.proofs.lemmas.Result.{err_from_is_err_and}
use Rattle.pieces.specs.declared.piece.Piece.{Piece}
use Rattle.pieces.specs.declared.reader.PieceReader.{PieceReader}
use Rattle.pieces.specs.Pieces.{Found, Reads, start}
use Rattle.pieces.specs.Reader.{found, place, rest, Hands}
use Rattle.pieces.proofs.Advance.{advance}
use Rattle.grammar.specs.Model.{Model}
use Rattle.text.specs.Verdict.{Verdict, Judged, judged}
use Rattle.text.proofs.Places.{accepted-few, accepted-inside}
use Rattle.text.proofs.Scanning.{exactly, begun, ended, refuses, goes_on, further}
use Rattle.text.proofs.scan.scan.Goals as goal

-- what the reader handed out, at the case that it is
handed : (x y : PieceReader) (o p : Option Piece) → o ≡ p → Hands x (Ok o) y → Hands x (Ok p) y
handed x y o p e h = subst (λ (q : Option Piece). Hands x (Ok q) y) e h

pub loop-piece-init : goal.loop-piece-init
loop-piece-init g c =
    let same = ap (λ x. x.now) c.new-reader.ensures.0 in
    let blank = c.default-notes.ensures in (
      same,
      (
        [],
        begun c.args.text.now c.new-reader.result same c.new-reader.ensures.1,
        record { count = blank.0; out = blank.1.0; unknown = blank.1.1.0; tokens = blank.1.1.1 },
      ),
    )

pub returns-in_err-piece-clause-judged : goal.returns-in_err-piece-clause-judged
returns-in_err-piece-clause-judged g c =
    let p = err_from_is_err_and c.from_residual.result c.from_residual.ensures.1 in
    let inv = c.loop-piece.invariant in
    let G = g.G.Grammar.model c.args.g.now in
    let text = c.args.text.now in
    rw (p.1, p.2)
    (exactly G text _
    (refuses G text c.loop-piece.reader inv.0 inv.1.0 inv.1.1 c.next_piece.new.self c.in_err-piece.field-0.0
    c.in_err-piece.ensures))

pub add-requires : goal.add-requires
add-requires g c =
    let inv = c.loop-piece.invariant in
    let G = g.G.Grammar.model c.args.g.now in
    let y = c.next_piece.new.self in
    let h = handed c.loop-piece.reader y _ (Some c.in-Some.piece) c.in-Some.is c.in_ok-piece.ensures in
    let far = further G c.args.text.now c.loop-piece.reader inv.0 inv.1.0 inv.1.1 y c.in-Some.piece h in
    record { few = omega (arith, far, advance inv.1.1, inv.1.2.count, y.near) }

pub loop-piece-smaller : goal.loop-piece-smaller
loop-piece-smaller g c =
    let inv = c.loop-piece.invariant in
    let G = g.G.Grammar.model c.args.g.now in
    let y = c.next_piece.new.self in
    let h = handed c.loop-piece.reader y _ (Some c.in-Some.piece) c.in-Some.is c.in_ok-piece.ensures in
    let far = further G c.args.text.now c.loop-piece.reader inv.0 inv.1.0 inv.1.1 y c.in-Some.piece h in
    let same : y.text.now ≡ c.args.text.now = ap (λ x. x.now) h.text ∙ inv.0 in
    let long : y.offset ≤ length c.args.text.now = rw same at y.within in
    omega (arith, far, long)

pub loop-piece-preserved : goal.loop-piece-preserved
loop-piece-preserved g c =
    let inv = c.loop-piece.invariant in
    let G = g.G.Grammar.model c.args.g.now in
    let y = c.next_piece.new.self in
    let h : Hands c.loop-piece.reader (Ok (Some c.in-Some.piece)) y
    = subst (λ (o : Option Piece). Hands c.loop-piece.reader (Ok o) y) c.in-Some.is c.in_ok-piece.ensures in (
      ap (λ x. x.now) h.text ∙ inv.0,
      (
        inv.1.0 ++ found c.in-Some.piece ∷ [],
        goes_on G c.args.text.now c.loop-piece.reader inv.0 inv.1.0 inv.1.1 y c.in-Some.piece h,
        c.add.ensures inv.1.0 inv.1.2,
      ),
    )

-- the verdict on a text of which these pieces are all
read_through : (G : Model) (text : List ℕ) (x : PieceReader) (same : x.text.now ≡ text) (ps : List Found)
    → Reads start text ps (place x) (rest x) → (y : PieceReader) (o : Option Piece) → o ≡ None → Hands x (Ok o) y
    → (v : Verdict) → v ≡ judged G ps → Judged G text v
read_through G text x same ps read y o none h v e =
    subst (λ (w : Verdict). Judged G text w) (sym e) (ended G text x same ps read y (handed x y o None none h))

pub returns-in_err-list-clause-judged : goal.returns-in_err-list-clause-judged
returns-in_err-list-clause-judged g c =
    let p = err_from_is_err_and c.from_residual-in_err-list.result c.from_residual-in_err-list.ensures.1 in
    let inv = c.loop-piece.invariant in
    let G = g.G.Grammar.model c.args.g.now in
    let text = c.args.text.now in
    rw (p.1, p.2)
    (exactly G text _ (read_through G text c.loop-piece.reader inv.0 inv.1.0 inv.1.1 c.next_piece.new.self _ c.in_default.is
    c.in_ok-piece.ensures _ (c.in_err-list.ensures G inv.1.0 inv.1.2)))

pub new-requires : goal.new-requires
new-requires g c =
    let inv = c.loop-piece.invariant in
    let G = g.G.Grammar.model c.args.g.now in
    let text = c.args.text.now in
    accepted-few G text _
    (read_through G text c.loop-piece.reader inv.0 inv.1.0 inv.1.1 c.next_piece.new.self _ c.in_default.is
    c.in_ok-piece.ensures _ (c.in_ok-list.ensures G inv.1.0 inv.1.2))

pub returns-clause-inside : goal.returns-clause-inside
returns-clause-inside g c =
    let inv = c.loop-piece.invariant in
    let G = g.G.Grammar.model c.args.g.now in
    let text = c.args.text.now in
    rw c.new.ensures
    (accepted-inside G text _
    (read_through G text c.loop-piece.reader inv.0 inv.1.0 inv.1.1 c.next_piece.new.self _ c.in_default.is
    c.in_ok-piece.ensures _ (c.in_ok-list.ensures G inv.1.0 inv.1.2)))

pub returns-clause-judged : goal.returns-clause-judged
returns-clause-judged g c =
    let inv = c.loop-piece.invariant in
    let G = g.G.Grammar.model c.args.g.now in
    let text = c.args.text.now in
    rw c.new.ensures
    (exactly G text _
    (read_through G text c.loop-piece.reader inv.0 inv.1.0 inv.1.1 c.next_piece.new.self _ c.in_default.is
    c.in_ok-piece.ensures _ (c.in_ok-list.ensures G inv.1.0 inv.1.2)))
