-- The lowest rule and the shortest first item, found by trying one after another.
use Rattle.std.proofs.Common.{◌≡◌, ℕ, ◌<◌, ◌≤◌, List, [], ◌∷◌, length, Some, None, Option, MatchOption, sym, refl, subst, arith}
use lib.Bits.{bit_and}
use Rattle.std.specs.Option.{IsSome}
use Rattle.std.proofs.lemmas.Option.{slice_get_within}
use Rattle.columns.specs.Mask.{Bit, Means}
use Rattle.columns.proofs.Bits.{bit-and, and_bit}
use Rattle.grammar.specs.declared.rule.Item.{Item}
use Rattle.grammar.specs.Model.{Items}
use Rattle.grammar.specs.Model.{Model}
use Rattle.grammar.specs.Several.{listed}
use Rattle.text.specs.declared.token.Token.{Token}
use Rattle.chart.specs.Cut.{row_begin, past_end}
use Rattle.chart.specs.Readings.{Derives, Row, ByRule, ItemsOf}
use Rattle.chart.specs.First.{LowestRule, Shortest, CutAt}
use Rattle.chart.proofs.Rows.{row_cons, row_one, one_row, near_grows, derives_rule}
use Rattle.chart.proofs.Rules.{rule_hit}
use Rattle.chart.proofs.Cuts.{begins, cut-end}

module _ (G : Model) (ts : List Token) where
  pub no_rule : (A i j c n : ℕ) → length G.rules ≤ n → ((q : ℕ) → q < n → ByRule G ts q A i j c → ⊥) → Derives G ts A i j c → ⊥
  no_rule A i j c n l f h =
      let q = derives_rule G ts A i j c h in
      f q.0 (omega (arith, slice_get_within G.rules q.0 q.1.0 q.1.1)) q.1

  -- a rule that is completed at column c, and one that is not
  pub rule-here : (A i j c r m : ℕ) (items : Items) → ItemsOf G ts A r (Some items) → Means m (Row G ts (listed items) i j) → Bit m c
      → ((q : ℕ) → q < r → ByRule G ts q A i j c → ⊥) → LowestRule G ts A i j c r
  rule-here A i j c r m items e h b f = record { fits = (record { left = A; items = items }, e, refl, h.sound c b); least = f }

  pub rule_past : (A i j c r m : ℕ) (items : Items) → ItemsOf G ts A r (Some items) → Means m (Row G ts (listed items) i j)
      → (Bit m c → ⊥) → ByRule G ts r A i j c → ⊥
  rule_past A i j c r m items e h n x = n (h.whole c (rule_hit G ts A i j r items e c x))

  -- a cut stands behind what begins there, and before what ends there
  within_cut : (x y : Item) (xs : List Item) (i j c m : ℕ) → CutAt G ts x (y ∷ xs) i j c m
      → (row_begin (y ∷ xs) i j ≤ m) × (m < past_end x.symbol i j)
  within_cut x y xs i j c m (n, r) =
      (omega (arith, begins G ts y xs i m j c (near_grows G ts x i m c n) r), omega (arith, cut-end G ts x y xs i m j c n r))

  module _ (x y : Item) (xs : List Item) (i j c low high : ℕ) (from : low ≡ row_begin (y ∷ xs) i j)
      (to : high ≡ past_end x.symbol i j) where
    -- there is a cut, and the first one that is found ends the shortest first item
    pub some_cut : (r : Option ℕ)
        → MatchOption r ((k : ℕ) → low ≤ k → k < high → CutAt G ts x (y ∷ xs) i j c k → ⊥)
        (λ p. (low ≤ p) × (p < high) × CutAt G ts x (y ∷ xs) i j c p × ((k : ℕ) → low ≤ k → k < p → CutAt G ts x (y ∷ xs) i j c k → ⊥))
        → Row G ts (x ∷ y ∷ xs) i j c → IsSome r
    some_cut None none h =
        let q = row_cons G ts x (y ∷ xs) i j c h in
        let w = within_cut x y xs i j c q.0 (q.1, q.2) in
        absurd (none q.0 (omega (arith, w.0)) (omega (arith, w.1)) (q.1, q.2))
    some_cut (Some p) t h = refl

    pub first_cut : (p : ℕ) → CutAt G ts x (y ∷ xs) i j c p → ((k : ℕ) → low ≤ k → k < p → CutAt G ts x (y ∷ xs) i j c k → ⊥)
        → Shortest G ts x (y ∷ xs) i j c p
    first_cut p t f =
        record {
          front = t.0;
          back = t.1;
          least = λ m l n r. f m (omega (arith, (within_cut x y xs i j c m (n, r)).0)) l (n, r);
        }

  pub cut_yes : (x y : Item) (xs : List Item) (i j c k a b m : ℕ) → Means a (Row G ts (x ∷ []) i k) → Means b (Row G ts (y ∷ xs) k j)
      → m ≡ bit_and a b → Bit m c → CutAt G ts x (y ∷ xs) i j c k
  cut_yes x y xs i j c k a b m p q e h =
      let t = bit-and a b c (subst (λ (n : ℕ). Bit n c) e h) in
      (row_one G ts x i k c (p.sound c t.0), q.sound c t.1)

  pub cut_no : (x y : Item) (xs : List Item) (i j c k a b m : ℕ) → Means a (Row G ts (x ∷ []) i k) → Means b (Row G ts (y ∷ xs) k j)
      → m ≡ bit_and a b → (Bit m c → ⊥) → CutAt G ts x (y ∷ xs) i j c k → ⊥
  cut_no x y xs i j c k a b m p q e h (n, r) =
      h (subst (λ (z : ℕ). Bit z c) (sym e) (and_bit a b c (p.whole c (one_row G ts x i k c n)) (q.whole c r)))
