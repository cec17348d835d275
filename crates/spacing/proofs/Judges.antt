-- The verdict on pieces that keep the limits and are found in their columns.
use Rattle.std.proofs.Common.{◌≡◌, ℕ, suc, ◌+◌, ◌≤◌, Bool, false, cond, not, ◌||◌, eqb, ltb, List, [], ◌∷◌, ◌++◌, length, take, drop}
use Rattle.std.proofs.Common.{is_some, Some, None, Option, sym, refl, ap, ◌∙◌, subst, arith}
use Rattle.std.specs.Option.{option_to_list}
use Rattle.std.specs.List.{AllByRecursion}
use Rattle.std.proofs.lemmas.List.{length-drop, length-take-le}
use Rattle.std.proofs.lemmas.Bool.{cond-false}
use Rattle.std.proofs.lemmas.Bool.Decides.{nat_tests}
use Rattle.pieces.specs.Pieces.{Found}
use Rattle.grammar.specs.Model.{Model, terminal_of}
use Rattle.text.specs.declared.token.Token.{Token}
use Rattle.text.specs.Verdict.{accepted, first_of, judged, out_of_bounds, token, token_with, tokens_of, unknown}
use Rattle.tree.specs.declared.piece.PieceRecord.{PieceRecord}
use Rattle.tree.specs.Pieces.{total, longest}
use Rattle.tree.specs.Terminals.{terminals_of}
use Rattle.tree.proofs.Naming.{first_named}
use Rattle.spacing.specs.Again.{Again, Retold}
use Rattle.spacing.specs.Spacing.{Apart}
use Rattle.spacing.proofs.Accepted.{InPlace}

-- no piece gives cause to refuse, and the tokens are these pieces
record Accepts (G : Model) (text bytes : List ℕ) (ps : List PieceRecord) (fs : List Found) : Type 0 where
  count : length fs ≡ length ps
  inside : first_of out_of_bounds fs ≡ None
  known : first_of (unknown G) fs ≡ None
  tokens : Retold G text bytes ps (tokens_of G fs)

accepts : (G : Model) (text : List ℕ) (cursor : ℕ) (ps : List PieceRecord) (fs : List Found) (bytes terminals : List ℕ) → Again bytes ps fs
    → AllByRecursion (InPlace text) fs → Apart cursor ps → longest ps ≤ 32 → total ps ≤ length bytes → terminals_of G bytes ps ≡ Some
    terminals
    → Accepts G text bytes ps fs
accepts G text cursor [] [] bytes terminals again at apart short whole names =
    record { count = refl; inside = refl; known = refl; tokens = tt }
accepts G text cursor [] (f ∷ fs) bytes terminals again at apart short whole names = absurd again
accepts G text cursor (p ∷ ps) [] bytes terminals again at apart short whole names = absurd again
accepts G text cursor (p ∷ ps) (f ∷ fs) bytes terminals again at apart short whole names =
    let w = take p.length bytes in
    let others = drop p.length bytes in
    let n = first_named (terminal_of G w) (terminals_of G others ps) terminals names in
    let t = n.0 in
    let d = length-drop p.length bytes in
    let next = p.column + p.length + 1 in
    let k = accepts G text next ps fs others n.1 again.2 at.1 apart.3 (omega arith) (omega arith) n.3 in
    let l = length-take-le p.length bytes (omega arith) in
    let long : length f.bytes ≡ p.length = ap (λ (xs : List ℕ). length xs) again.0 ∙ l in
    let few : length f.bytes ≤ 32 = omega arith in
    let column = again.1 in
    let left : f.place.column ≤ 63 = omega (arith, apart.0) in
    let in' : out_of_bounds f ≡ false = grind (arith, nat_tests) in
    let name : terminal_of G f.bytes ≡ Some t = ap (terminal_of G) again.0 ∙ n.2 in
    let has : unknown G f ≡ false = ap (λ (o : Option ℕ). not (is_some o)) name in
    let one : option_to_list (token_with f (terminal_of G f.bytes)) ≡ token f t ∷ []
    = ap (λ (o : Option ℕ). option_to_list (token_with f o)) name
    ∙ ap (λ (b : Bool). option_to_list (cond b None (Some (token f t)))) in' in
    record {
      count = ap suc k.count;
      inside = cond-false (out_of_bounds f) (Some f) (first_of out_of_bounds fs) in' ∙ k.inside;
      known = cond-false (unknown G f) (Some f) (first_of (unknown G) fs) has ∙ k.known;
      tokens = subst (λ (ts : List Token). Retold G text bytes (p ∷ ps) (ts ++ tokens_of G fs)) (sym one)
          (record { long = long; column = column; terminal = n.2; bytes = at.0 ∙ again.0 }, k.tokens);
    }

-- such pieces, from 1 to 128, are accepted
module _ (G : Model) (text : List ℕ) (ps : List PieceRecord) (fs : List Found) (bytes terminals : List ℕ) (again : Again bytes ps fs)
    (at : AllByRecursion (InPlace text) fs) (apart : Apart 0 ps) (short : longest ps ≤ 32) (whole : total ps ≡ length bytes)
    (names : terminals_of G bytes ps ≡ Some terminals) where
  all : Accepts G text bytes ps fs
  all = accepts G text 0 ps fs bytes terminals again at apart short (omega arith) names

  pub tokens-retold : Retold G text bytes ps (tokens_of G fs)
  tokens-retold = all.tokens

  pub pieces-judged : 1 ≤ length ps → length ps ≤ 128 → judged G fs ≡ accepted (tokens_of G fs)
  pieces-judged some few =
      let c = all.count in
      let a = all.inside in
      let b = all.known in
      let least : 1 ≤ length fs = omega arith in
      let most : length fs ≤ 128 = omega arith in
      let k : eqb (length fs) 0 || ltb 128 (length fs) ≡ false = grind (arith, nat_tests) in
      simp (a, b, k)
