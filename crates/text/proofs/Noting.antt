-- Noting one piece more.
use Rattle.std.proofs.Common.{◌≡◌, ℕ, zero, suc, ◌+◌, Bool, true, false, cond, not, List, [], ◌∷◌, ◌++◌, take, is_some, Some, None}
use Rattle.std.proofs.Common.{Option, Ok, Err, Result, IsOk, OnOk, OnErr, ◌↔◌, ◌<◌, length, sym, refl, ap, ◌∙◌, arith}
use Rattle.std.specs.Option.{option_or, option_to_list}
use Rattle.std.proofs.lemmas.List.{append_assoc, append-nil, length-append, take_all, take_at}
use Rattle.arrayvec.specs.ArrayVec.{ArrayVec}
use Rattle.arrayvec.specs.declared.errors.CapacityError.{CapacityError}
use Rattle.pieces.specs.Pieces.{Found}
use Rattle.pieces.specs.Reader.{position}
use Rattle.grammar.specs.Model.{Model, terminal_of}
use Rattle.text.specs.declared.notes.Notes.{Notes}
use Rattle.text.specs.declared.token.Token.{Token}
use Rattle.std.specs.Bool.{then_some}
use Rattle.text.specs.Verdict.{out_of_bounds, unknown, first_of, token_with, tokens_of}
use Rattle.text.specs.Notes.{Noted, place_of}

first_more : (test : Found → Bool) (ps : List Found) (x : Found)
    → place_of (first_of test (ps ++ x ∷ [])) ≡ option_or (place_of (first_of test ps)) (then_some (test x) (position x.place))
first_more test [] x =
    elim (test x) as (λ b. place_of (cond b (Some x) None) ≡ then_some b (position x.place)) [ true ↦ refl | false ↦ refl ]
first_more test (y ∷ ps) x =
    elim (test y) as (λ b. place_of (cond b (Some y) (first_of test (ps ++ x ∷ [])))
    ≡ option_or (place_of (cond b (Some y) (first_of test ps))) (then_some (test x) (position x.place)))
    [ true ↦ refl | false ↦ first_more test ps x ]

tokens_more : (G : Model) (ps : List Found) (x : Found)
    → tokens_of G (ps ++ x ∷ []) ≡ tokens_of G ps ++ option_to_list (token_with x (terminal_of G x.bytes))
tokens_more G [] x = append-nil (option_to_list (token_with x (terminal_of G x.bytes)))
tokens_more G (y ∷ ps) x =
    let own = λ (z : Found). option_to_list (token_with z (terminal_of G z.bytes)) in
    ap (λ (ts : List Token). own y ++ ts) (tokens_more G ps x) ∙ sym (append_assoc (own y) (tokens_of G ps) (own x))

-- a token is taken over, unless there are 128
pub taken : (v w : ArrayVec Token) (t : Token) (r : Result Unit (CapacityError Token)) → (IsOk r ↔ (length v.items < 128))
    → OnOk r (w.items ≡ v.items ++ t ∷ []) → OnErr r (w ≡ v) → OnErr r (length v.items ≡ 128)
    → w.items ≡ take 128 (v.items ++ t ∷ [])
taken v w t (Ok u) room pushed same full =
    let h : length v.items < 128 = room.0 refl in
    let l = length-append v.items (t ∷ []) in
    pushed ∙ sym (take_all 128 (v.items ++ t ∷ []) (omega arith))
taken v w t (Err e) room pushed same full = ap (λ (x : ArrayVec Token). x.items) same ∙ sym (take_at v.items (t ∷ []) 128 full)

-- what is cut off early is cut off late too
take-front : {X : Type 0} (n : ℕ) (xs ys : List X) → take n (take n xs ++ ys) ≡ take n (xs ++ ys)
take-front zero xs ys = refl
take-front (suc n) [] ys = refl
take-front (suc n) (x ∷ xs) ys = ap (λ (zs : List _). x ∷ zs) (take-front n xs ys)

flip : (a b : Bool) → a ≡ not b → b ≡ not a
flip a true e = sym (ap not e)
flip a false e = sym (ap not e)

-- where there is no token, the tokens stay
pub left : (G : Model) (ps : List Found) (n : Notes) → Noted G ps n → n.tokens.items ≡ take 128 (n.tokens.items ++ [])
left G ps n noted =
    let h = take-front 128 (tokens_of G ps) [] in
    let a = append-nil (tokens_of G ps) in
    let j = noted.tokens in
    cc

-- t is the piece's terminal, k its token, o and z say whether it is out of bounds or without terminal
pub noted_more : (G : Model) (ps : List Found) (x : Found) (n m : Notes) (t : Option ℕ) (o z : Bool) (k : Option Token) → Noted G ps n
    → t ≡ terminal_of G x.bytes → o ≡ out_of_bounds x → is_some t ≡ not z → k ≡ token_with x t
    → m.count ≡ n.count + 1
    → m.out_of_bounds ≡ option_or n.out_of_bounds (then_some o (position x.place))
    → m.unknown ≡ option_or n.unknown (then_some z (position x.place))
    → m.tokens.items ≡ take 128 (n.tokens.items ++ option_to_list k)
    → Noted G (ps ++ x ∷ []) m
noted_more G ps x n m t o z k noted terminal outside without made count out un tokens =
    let w : z ≡ not (is_some t) = flip (is_some t) z without in
    let l = length-append ps (x ∷ []) in
    let a = first_more out_of_bounds ps x in
    let b = first_more (unknown G) ps x in
    let e = tokens_more G ps x in
    let h = take-front 128 (tokens_of G ps) (option_to_list (token_with x (terminal_of G x.bytes))) in
    let f = noted.out in
    let u = noted.unknown in
    let j = noted.tokens in
    record { count = omega (arith, noted.count); out = cc; unknown = cc; tokens = cc }
