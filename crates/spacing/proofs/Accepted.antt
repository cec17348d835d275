-- The tokens of an accepted text are pieces by themselves.
use Rattle.std.proofs.Common.{◌≡◌, ℕ, ◌+◌, true, false, cond, List, [], ◌∷◌, map, length, take, drop, Some, None, Option, sym, refl, ap}
use Rattle.std.proofs.Common.{◌∙◌, subst, inl, inr, arith}
use Rattle.std.specs.List.{flat_map, AllByRecursion}
use Rattle.std.specs.Option.{option_map, option_to_list}
use Rattle.std.proofs.ByRecursion.{All-append, All-weaker}
use Rattle.std.proofs.lemmas.List.{take_at, drop_at, drop-drop, length-take-le, length-drop}
use Rattle.std.proofs.lemmas.Bool.Decides.{leb_tells}
use Rattle.pieces.specs.Alone.{one_piece}
use Rattle.pieces.specs.Pieces.{Place, Found, Reads, Cutting, Cut}
use Rattle.grammar.specs.Model.{Model, terminal_of}
use Rattle.text.specs.declared.token.Token.{Token}
use Rattle.text.specs.Verdict.{accepted, out_of_bounds, token, token_with, tokens_of, verdict_on, Judged}
use Rattle.text.proofs.Places.{Inside, accepted-inside, accepted-tokens}
use Rattle.tree.specs.declared.piece.PieceRecord.{PieceRecord}
use Rattle.tree.specs.Pieces.{all_one_piece}
use Rattle.spacing.specs.Again.{bytes_at}
use Rattle.spacing.proofs.Alone.{alone}
use Rattle.spacing.proofs.Joins.{joined_alone}

-- a piece's bytes stand in the text where the piece does
abbrev pub InPlace : List ℕ → Found → Type 0
InPlace text x = take (length x.bytes) (drop x.place.offset text) ≡ x.bytes

pub in_place : {p q : Place} {s t : List ℕ} {ps : List Found} (text : List ℕ) → Reads p s ps q t → drop p.offset text ≡ s
    → AllByRecursion (InPlace text) ps
in_place text Reads.here e = tt
in_place {p} text (Reads.line is h) e = in_place text h (sym (drop-drop 1 p.offset text) ∙ ap (drop 1) (e ∙ is))
in_place {p} text (Reads.space is h) e = in_place text h (sym (drop-drop 1 p.offset text) ∙ ap (drop 1) (e ∙ is))
in_place {p} text (Reads.piece {w = w} {s = s} is f h) e =
    let n = length w in
    let rest : drop (p.offset + n) text ≡ s = sym (drop-drop n p.offset text) ∙ ap (drop n) (e ∙ is) ∙ drop_at w s n refl in
    (ap (take n) (e ∙ is) ∙ take_at w s n refl, in_place text h rest)

found-alone : {p q : Place} {s t : List ℕ} {ps : List Found} → Reads p s ps q t → AllByRecursion (λ x. one_piece x.bytes ≡ true) ps
found-alone Reads.here = tt
found-alone (Reads.line is h) = found-alone h
found-alone (Reads.space is h) = found-alone h
found-alone (Reads.piece {w = w} {s = s} {c = c} is f h) = (alone s c w f, found-alone h)

-- the bytes of a token in its text are one piece
abbrev pub OnePiece : List ℕ → Token → Type 0
OnePiece text t = one_piece (bytes_at text t) ≡ true

token-alone : (text : List ℕ) (x : Found) (o : Option ℕ) → InPlace text x → one_piece x.bytes ≡ true
    → AllByRecursion (OnePiece text) (option_to_list (token_with x o))
token-alone text x o at one = elim (out_of_bounds x) as (λ b. AllByRecursion (OnePiece text)
    (option_to_list (cond b None (option_map (token x) o)))) [
      | true ↦ tt
      | false ↦ elim o as (λ v. AllByRecursion (OnePiece text) (option_to_list (option_map (token x) v)))
          [ None ↦ tt | Some t ↦ (ap one_piece at ∙ one, tt) ]
    ]

tokens-alone : (text : List ℕ) (G : Model) (ps : List Found) → AllByRecursion (InPlace text) ps
    → AllByRecursion (λ x. one_piece x.bytes ≡ true) ps
    → AllByRecursion (OnePiece text) (tokens_of G ps)
tokens-alone text G [] at one = tt
tokens-alone text G (x ∷ ps) at one =
    let o = terminal_of G x.bytes in
    All-append (OnePiece text) (option_to_list (token_with x o)) (tokens_of G ps) (token-alone text x o at.0 one.0)
    (tokens-alone text G ps at.1 one.1)

cut-alone : (G : Model) (text : List ℕ) (ts : List Token) (k : Cutting) → Cut text k → accepted ts ≡ verdict_on G k
    → AllByRecursion (OnePiece text) ts
cut-alone G text ts (Cutting.into ps) (q, r) e =
    let all = tokens-alone text G ps (in_place text r refl) (found-alone r) in
    subst (λ (us : List Token). AllByRecursion (OnePiece text) us) (sym (accepted-tokens G ps ts e)) all
cut-alone G text ts (Cutting.stuck p) cut e = cc

pub accepted-alone : (G : Model) (text : List ℕ) (ts : List Token) → Judged G text (accepted ts)
    → AllByRecursion (OnePiece text) ts
accepted-alone G text ts j = elim (leb_tells (length text) 12288) [
  | inl p ↦ let k = j.cut p.1 in cut-alone G text ts k.0 k.1 k.2
  | inr p ↦
      let e = j.long p.1 in
      cc
]

-- the same for their bytes without gaps, with records of their lengths
pub accepted_joined : (G : Model) (text : List ℕ) (ts : List Token) (record_of : Token → PieceRecord)
    → ((t : Token) → (record_of t).length ≡ t.length) → Judged G text (accepted ts)
    → all_one_piece (flat_map (bytes_at text) ts) (map record_of ts) ≡ true
accepted_joined G text ts record_of same j =
    joined_alone (bytes_at text) record_of ts
    (All-weaker (Inside (length text)) (λ t. length (bytes_at text t) ≡ (record_of t).length)
    (λ t inside.
    let d = length-drop t.start text in
    length-take-le t.length (drop t.start text) (omega (arith, inside.1)) ∙ sym (same t))
    ts (accepted-inside G text ts j))
    (accepted-alone G text ts j)
