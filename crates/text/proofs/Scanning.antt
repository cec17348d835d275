-- A text's verdict from the steps of the piece reader.
use Rattle.std.proofs.Common.{◌≡◌, ℕ, ◌<◌, List, [], ◌∷◌, ◌++◌, length, drop, Some, None, Ok, Err, sym, refl, ap, ◌∙◌, subst, inl, inr}
use Rattle.std.proofs.Common.{arith}
use Rattle.std.proofs.lemmas.List.{append-nil}
use Rattle.std.proofs.lemmas.Bool.Decides.{leb_tells}
use Rattle.faults.specs.declared.fault.Fault.{Fault}
use Rattle.pieces.specs.declared.piece.Piece.{Piece}
use Rattle.pieces.specs.declared.reader.PieceReader.{PieceReader}
use Rattle.pieces.specs.Pieces.{Place, Found, Reads, Cutting, start}
use Rattle.pieces.specs.Reader.{place, rest, found, Hands}
use Rattle.pieces.proofs.OneCut.{cut-one}
use Rattle.pieces.proofs.Progress.{join}
use Rattle.pieces.proofs.Advance.{advance}
use Rattle.grammar.specs.Model.{Model}
use Rattle.text.specs.Verdict.{Verdict, refused, judged, Judged, Exactly}

-- a text has one verdict
pub exactly : (G : Model) (text : List ℕ) (v : Verdict) → Judged G text v → Exactly (Judged G text) v
exactly G text v j = record {
  holds = j;
  only = λ w k. elim (leb_tells (length text) 12288) [
    | inl p ↦
        let a = j.cut p.1 in
        let b = k.cut p.1 in
        let e = cut-one text a.0 b.0 a.1 b.1 in
        let f = a.2 in
        let g = b.2 in
        cc
    | inr p ↦ k.long p.1 ∙ sym (j.long p.1)
  ];
}

module _ (G : Model) (text : List ℕ) (x : PieceReader) (same : x.text.now ≡ text) (ps : List Found)
    (read : Reads start text ps (place x) (rest x)) where
  -- the reader is at the end
  pub ended : (y : PieceReader) → Hands x (Ok None) y → Judged G text (judged G ps)
  ended y h = record {
    long = λ l.
        let e = (h.long (rw same l)).0 in
        absurd (cc);
    cut = λ s.
        let n = h.next (rw same s) in
        let r = subst (λ (qs : List Found). Reads start text qs (place y) (rest y)) (append-nil ps) (join read n.0) in
        (Cutting.into ps, (place y, subst (λ (t : List ℕ). Reads start text ps (place y) t) n.1 r), refl);
  }

  -- the reader refuses
  pub refuses : (y : PieceReader) (f : Fault) → Hands x (Err f) y → Judged G text (refused f)
  refuses y f h = record {
    long = λ l. let e = (h.long (rw same l)).0 in cc;
    cut = λ s.
        let n = h.next (rw same s) in
        (Cutting.stuck (place y), (ps ++ [], rest y, join read n.0, n.1), ap refused n.2);
  }

  -- the reader hands out a piece
  pub goes_on : (y : PieceReader) (p : Piece) → Hands x (Ok (Some p)) y → Reads start text (ps ++ found p ∷ []) (place y) (rest y)
  goes_on y p h = elim (leb_tells (length text) 12288) [
    | inl s ↦ join read (h.next (rw same s.1))
    | inr l ↦
        let e = (h.long (rw same l.1)).0 in
        absurd (cc)
  ]

  pub further : (y : PieceReader) (p : Piece) → Hands x (Ok (Some p)) y → x.offset < y.offset
  further y p h = elim (leb_tells (length text) 12288) [
    | inl s ↦ omega (arith, advance (h.next (rw same s.1)))
    | inr l ↦
        let e = (h.long (rw same l.1)).0 in
        absurd (cc)
  ]

-- a reader at the start has read nothing
pub begun : (text : List ℕ) (x : PieceReader) → x.text.now ≡ text → place x ≡ start → Reads start text [] (place x) (rest x)
begun text x same at =
    let zero : x.offset ≡ 0 = ap (λ (p : Place). p.offset) at in
    let all : rest x ≡ text = ap (λ (n : ℕ). drop n x.text.now) zero ∙ same in
    let r = subst (λ (p : Place). Reads start text [] p text) (sym at) Reads.here in
    subst (λ (s : List ℕ). Reads start text [] (place x) s) (sym all) r
