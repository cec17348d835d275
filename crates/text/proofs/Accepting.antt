-- The verdict on pieces that were noted and give no cause to refuse.
use Rattle.std.proofs.Common.{◌≡◌, ◌≤◌, false, ◌||◌, eqb, ltb, List, [], ◌∷◌, length, Some, None, Option, sym, refl, ap, ◌∙◌, arith}
use Rattle.std.specs.Option.{option_to_list}
use Rattle.std.proofs.lemmas.List.{take_all, length-append}
use Rattle.std.proofs.lemmas.Bool.Decides.{nat_tests}
use Rattle.pieces.specs.Pieces.{Found}
use Rattle.grammar.specs.Model.{Model, terminal_of}
use Rattle.text.specs.declared.notes.Notes.{Notes}
use Rattle.text.specs.Verdict.{accepted, out_of_bounds, unknown, first_of, token_with, tokens_of, judged}
use Rattle.text.specs.Notes.{Noted, place_of}

few : {X : Type 0} (o : Option X) → length (option_to_list o) ≤ 1
few None = omega arith
few (Some x) = omega arith

-- no more tokens than pieces
pub few-tokens : (G : Model) (ps : List Found) → length (tokens_of G ps) ≤ length ps
few-tokens G [] = omega arith
few-tokens G (x ∷ ps) =
    let o = token_with x (terminal_of G x.bytes) in
    omega (arith, length-append (option_to_list o) (tokens_of G ps), few o, few-tokens G ps)

no_place : (o : Option Found) → None ≡ place_of o → o ≡ None
no_place None e = refl
no_place (Some x) e = cc

pub accepts : (G : Model) (ps : List Found) (n : Notes) → Noted G ps n → n.out_of_bounds ≡ None → n.unknown ≡ None
    → (n.count ≡ 0 → ⊥) → n.count ≤ 128 → accepted n.tokens.items ≡ judged G ps
accepts G ps n noted out un some fits =
    let a = no_place (first_of out_of_bounds ps) (sym out ∙ noted.out) in
    let b = no_place (first_of (unknown G) ps) (sym un ∙ noted.unknown) in
    let c = noted.count in
    let l = few-tokens G ps in
    let short : length (tokens_of G ps) ≤ 128 = omega arith in
    let t : n.tokens.items ≡ tokens_of G ps = noted.tokens ∙ take_all 128 (tokens_of G ps) short in
    let nz : (length ps ≡ 0 → ⊥) = λ z. some (noted.count ∙ z) in
    let le : length ps ≤ 128 = omega arith in
    let k : eqb (length ps) 0 || ltb 128 (length ps) ≡ false = grind (arith, nat_tests) in
    simp (a, b, k) (ap accepted t)
