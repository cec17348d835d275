-- The tokens of an accepted text lie within it.
use Rattle.std.proofs.Common.{◌≡◌, ℕ, ◌+◌, ◌<◌, ◌≤◌, Bool, true, false, cond, ◌||◌, eqb, ltb, List, [], ◌∷◌, length, Some, None, Option}
use Rattle.std.proofs.Common.{sym, ap, ◌∙◌, subst, inl, inr, arith}
use Rattle.std.specs.Option.{option_map, option_to_list}
use Rattle.std.specs.List.{AllByRecursion}
use Rattle.std.proofs.ByRecursion.{All-append}
use Rattle.std.proofs.lemmas.List.{length-append}
use Rattle.std.proofs.lemmas.Bool.Decides.{leb_tells, nat_tests}
use Rattle.faults.specs.declared.fault.Fault.{Fault}
use Rattle.faults.specs.declared.fault.Fault.TheVariants.{PieceOutOfBounds, PieceCount, NoTerminal}
use Rattle.faults.specs.declared.fault.Position.{Position}
use Rattle.pieces.specs.Pieces.{Place, Found, Reads, Cutting, Cut}
use Rattle.grammar.specs.Model.{Model, terminal_of}
use Rattle.text.specs.declared.token.Token.{Token}
use Rattle.text.specs.Verdict.{Verdict, accepted, refused, out_of_bounds, unknown, first_of, token, token_with, tokens_of, refused_at}
use Rattle.text.specs.Verdict.{judged, verdict_on, Judged}
use Rattle.text.proofs.Accepting.{few-tokens}

-- of at most 32 bytes, and within a text of n bytes
abbrev pub Inside : ℕ → Token → Type 0
Inside n t = (t.length ≤ 32) × (t.start + t.length ≤ n)

-- every piece lies within its text
pieces-inside : {p q : Place} {s t : List ℕ} {ps : List Found} (n : ℕ) → Reads p s ps q t → p.offset + length s ≡ n
    → AllByRecursion (λ x. x.place.offset + length x.bytes ≤ n) ps
pieces-inside n Reads.here e = tt
pieces-inside n (Reads.line is h) e = pieces-inside n h (omega (arith, ap (λ (xs : List ℕ). length xs) is))
pieces-inside n (Reads.space is h) e = pieces-inside n h (omega (arith, ap (λ (xs : List ℕ). length xs) is))
pieces-inside n (Reads.piece {w = w} {s = s} is f h) e =
    let l = ap (λ (xs : List ℕ). length xs) is ∙ length-append w s in
    (omega arith, pieces-inside n h (omega arith))

-- and so does its token, if it has one
token-inside : (n : ℕ) (x : Found) (o : Option ℕ) → x.place.offset + length x.bytes ≤ n
    → AllByRecursion (Inside n) (option_to_list (token_with x o))
token-inside n x o h = elim (leb_tells (length x.bytes) 32) [
  | inl p ↦
      let few : length x.bytes ≤ 32 = p.1 in
      elim (out_of_bounds x) as (λ b. AllByRecursion (Inside n) (option_to_list (cond b None (option_map (token x) o)))) [
        | true ↦ tt
        | false ↦ elim o as (λ v. AllByRecursion (Inside n) (option_to_list (option_map (token x) v)))
            [ None ↦ tt | Some t ↦ ((few, h), tt) ]
      ]
  | inr p ↦
      let long : 32 < length x.bytes = p.1 in
      let out : out_of_bounds x ≡ true = grind (arith, nat_tests) in
      rw out tt
]

tokens-inside : (n : ℕ) (G : Model) (ps : List Found) → AllByRecursion (λ x. x.place.offset + length x.bytes ≤ n) ps
    → AllByRecursion (Inside n)
    (tokens_of G ps)
tokens-inside n G [] all = tt
tokens-inside n G (x ∷ ps) all =
    let o = terminal_of G x.bytes in
    All-append (Inside n) (option_to_list (token_with x o)) (tokens_of G ps) (token-inside n x o all.0) (tokens-inside n G ps all.1)

-- what is accepted is not refused on the way
past_place : (f : Position → Fault) (o : Option Found) (v : Verdict) (ts : List Token) → accepted ts ≡ refused_at f o v → accepted ts ≡ v
past_place f None v ts e = e
past_place f (Some x) v ts e = cc

past_test : (b : Bool) (f : Fault) (v : Verdict) (ts : List Token) → accepted ts ≡ cond b (refused f) v → accepted ts ≡ v
past_test false f v ts e = e
past_test true f v ts e = cc

pub accepted-tokens : (G : Model) (ps : List Found) (ts : List Token) → accepted ts ≡ judged G ps → ts ≡ tokens_of G ps
accepted-tokens G ps ts e =
    let known = refused_at NoTerminal (first_of (unknown G) ps) (accepted (tokens_of G ps)) in
    let many = eqb (length ps) 0 || ltb 128 (length ps) in
    let a = past_place PieceOutOfBounds (first_of out_of_bounds ps) (cond many (refused PieceCount) known) ts e in
    let b = past_test many PieceCount known ts a in
    let c : accepted ts ≡ accepted (tokens_of G ps) = past_place NoTerminal (first_of (unknown G) ps) (accepted (tokens_of G ps)) ts b in
    cc

cut_inside : (G : Model) (text : List ℕ) (ts : List Token) (k : Cutting) → Cut text k → accepted ts ≡ verdict_on G k
    → AllByRecursion (Inside (length text)) ts
cut_inside G text ts (Cutting.into ps) (q, r) e =
    let all = tokens-inside (length text) G ps (pieces-inside (length text) r (omega arith)) in
    subst (λ (us : List Token). AllByRecursion (Inside (length text)) us) (sym (accepted-tokens G ps ts e)) all
cut_inside G text ts (Cutting.stuck p) cut e = absurd (cc)

pub accepted-inside : (G : Model) (text : List ℕ) (ts : List Token) → Judged G text (accepted ts) → AllByRecursion (Inside (length text)) ts
accepted-inside G text ts j = elim (leb_tells (length text) 12288) [
  | inl p ↦ let k = j.cut p.1 in cut_inside G text ts k.0 k.1 k.2
  | inr p ↦
      let e = j.long p.1 in
      absurd (cc)
]

few_of : (G : Model) (ps : List Found) (ts : List Token) → accepted ts ≡ judged G ps → length ts ≤ 128
few_of G ps ts e = elim (leb_tells (length ps) 128) [
  | inl p ↦
      let same = ap (λ (us : List Token). length us) (accepted-tokens G ps ts e) in
      omega (arith, p.1, few-tokens G ps)
  | inr p ↦
      let many : eqb (length ps) 0 || ltb 128 (length ps) ≡ true = grind (arith, nat_tests, p.1) in
      let known = refused_at NoTerminal (first_of (unknown G) ps) (accepted (tokens_of G ps)) in
      let full : accepted ts ≡ refused PieceCount
      = past_place PieceOutOfBounds (first_of out_of_bounds ps) (refused PieceCount) ts (rw many at e) in
      cc
]

cut_few : (G : Model) (text : List ℕ) (ts : List Token) (k : Cutting) → accepted ts ≡ verdict_on G k → length ts ≤ 128
cut_few G text ts (Cutting.into ps) e = few_of G ps ts e
cut_few G text ts (Cutting.stuck p) e = absurd (cc)

-- a text with more pieces is refused
pub accepted-few : (G : Model) (text : List ℕ) (ts : List Token) → Judged G text (accepted ts) → length ts ≤ 128
accepted-few G text ts j = elim (leb_tells (length text) 12288) [
  | inl p ↦ let k = j.cut p.1 in cut_few G text ts k.0 k.2
  | inr p ↦ let e = j.long p.1 in absurd (cc)
]
