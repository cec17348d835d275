-- A piece is one piece by itself, and stays one where a space or a line end follows.
use Rattle.std.proofs.Common.{◌≡◌, ℕ, Bool, true, false, ◌||◌, eqb, List, [], ◌∷◌, ◌++◌, refl, ap, ◌∙◌, inl, inr, arith}
use Rattle.std.proofs.lemmas.Bool.{and_from, and_parts, both_ways, eqb-true, or_cases, or_left, or_right}
use Rattle.pieces.specs.declared.piece.Class.{Class}
use Rattle.pieces.specs.declared.piece.Class.TheVariants.{Name, Number, Quote, Sign}
use Rattle.pieces.specs.Alone.{every, one_name, one_number, quote_rest, one_quote, one_sign, one_piece}
use Rattle.pieces.specs.Kinds.{letter, digit, sign, goes_on, quotable}
use Rattle.pieces.specs.Pieces.{Passes, Stops, Forms}
use Rattle.pieces.proofs.Bytes.{letter-goes-on}

every_passes : (test : ℕ → Bool) (w : List ℕ) → Passes test w → every test w ≡ true
every_passes test [] p = refl
every_passes test (b ∷ w) p = and_from (test b) (every test w) p.0 (every_passes test w p.1)

passes_every : (test : ℕ → Bool) (w : List ℕ) → every test w ≡ true → Passes test w
passes_every test [] e = tt
passes_every test (b ∷ w) e = let p = and_parts (test b) (every test w) e in (p.0, passes_every test w p.1)

closes : (inside : List ℕ) → Passes quotable inside → quote_rest (inside ++ 34 ∷ []) ≡ true
closes [] p = refl
closes (b ∷ []) p = and_from (quotable b) true p.0 refl
closes (b ∷ c ∷ bs) p = and_from (quotable b) (quote_rest (c ∷ (bs ++ 34 ∷ []))) p.0 (closes (c ∷ bs) p.1)

opened : (w : List ℕ) → quote_rest w ≡ true → (inside : List ℕ) × (w ≡ inside ++ 34 ∷ []) × Passes quotable inside
opened [] e = absurd (both_ways false refl e)
opened (b ∷ []) e = ([], ap (λ (x : ℕ). x ∷ []) (eqb-true b 34 e), tt)
opened (b ∷ c ∷ bs) e =
    let p = and_parts (quotable b) (quote_rest (c ∷ bs)) e in
    let r = opened (c ∷ bs) p.1 in
    (b ∷ r.0, ap (λ (xs : List ℕ). b ∷ xs) r.1, (p.0, r.2))

-- a test of four parts
first_of_four : (a b c d : Bool) → a ≡ true → a || b || c || d ≡ true
first_of_four a b c d e = or_left (a || b || c) d (or_left (a || b) c (or_left a b e))

second_of_four : (a b c d : Bool) → b ≡ true → a || b || c || d ≡ true
second_of_four a b c d e = or_left (a || b || c) d (or_left (a || b) c (or_right a b e))

third_of_four : (a b c d : Bool) → c ≡ true → a || b || c || d ≡ true
third_of_four a b c d e = or_left (a || b || c) d (or_right (a || b) c e)

module _ (rest : List ℕ) where
  -- what is a piece where others follow is one by itself
  pub alone : (c : Class) (w : List ℕ) → Forms c w rest → one_piece w ≡ true
  alone Name [] f = absurd f.0
  alone Name (b ∷ w) f =
      first_of_four (one_name (b ∷ w)) (one_number (b ∷ w)) (one_quote (b ∷ w)) (one_sign (b ∷ w))
      (and_from (letter b) (every goes_on w) f.0 (every_passes goes_on w f.1.1))
  alone Number [] f = absurd f.0
  alone Number (b ∷ w) f =
      second_of_four (one_name (b ∷ w)) (one_number (b ∷ w)) (one_quote (b ∷ w)) (one_sign (b ∷ w))
      (and_from (digit b) (every digit w) f.0 (every_passes digit w f.1.1))
  alone Quote w (inside, is, p) =
      let q : one_quote w ≡ true = ap one_quote is ∙ closes inside p in
      third_of_four (one_name w) (one_number w) (one_quote w) (one_sign w) q
  alone Sign [] f = absurd f.0
  alone Sign (b ∷ []) f = or_right (one_name (b ∷ []) || one_number (b ∷ []) || one_quote (b ∷ [])) (sign b) f.0
  alone Sign (b ∷ c ∷ w) f = absurd (omega (arith, f.1))

  name_stays : (w : List ℕ) → one_name w ≡ true → Stops goes_on rest → Forms Name w rest
  name_stays [] e s = absurd (both_ways false refl e)
  name_stays (b ∷ w) e s =
      let p = and_parts (letter b) (every goes_on w) e in
      (p.0, (letter-goes-on b p.0, passes_every goes_on w p.1), s)

  number_stays : (w : List ℕ) → one_number w ≡ true → Stops digit rest → Forms Number w rest
  number_stays [] e s = absurd (both_ways false refl e)
  number_stays (b ∷ w) e s =
      let p = and_parts (digit b) (every digit w) e in
      (p.0, (p.0, passes_every digit w p.1), s)

  quote_stays : (w : List ℕ) → one_quote w ≡ true → Forms Quote w rest
  quote_stays [] e = absurd (both_ways false refl e)
  quote_stays (b ∷ w) e =
      let p = and_parts (eqb b 34) (quote_rest w) e in
      let b34 = eqb-true b 34 p.0 in
      let q = opened w p.1 in
      let is = q.1 in
      (q.0, cc, q.2)

  sign_stays : (w : List ℕ) → one_sign w ≡ true → Forms Sign w rest
  sign_stays [] e = absurd (both_ways false refl e)
  sign_stays (b ∷ []) e = (e, refl)
  sign_stays (b ∷ c ∷ w) e = absurd (both_ways false refl e)

  -- what is one piece by itself is a piece where neither a name nor a number goes on
  pub stays : (w : List ℕ) → one_piece w ≡ true → Stops goes_on rest → Stops digit rest → (c : Class) × Forms c w rest
  stays w e s d = elim (or_cases (one_name w || one_number w || one_quote w) (one_sign w) e) [
    | inl f ↦ elim (or_cases (one_name w || one_number w) (one_quote w) f) [
      | inl g ↦ elim (or_cases (one_name w) (one_number w) g) [
        | inl h ↦ (Name, name_stays w h s)
        | inr h ↦ (Number, number_stays w h d)
      ]
      | inr g ↦ (Quote, quote_stays w g)
    ]
    | inr f ↦ (Sign, sign_stays w f)
  ]
