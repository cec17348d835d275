-- The columns of a row behind its first item, place of the cut by place.
use Rattle.std.proofs.Common.{◌≡◌, ℕ, ◌+◌, ◌<◌, ◌≤◌, List, [], ◌∷◌, subst, inl, inr, ⊎_elim, arith}
use lib.Bits.{bit_and, bit_or}
use Rattle.std.proofs.lemmas.Bool.{cases_lt}
use Rattle.columns.specs.Mask.{Bit, Means, Near}
use Rattle.columns.proofs.Bits.{bit_zero}
use Rattle.columns.proofs.Sets.{means_as, means_near, means_none, means_or, means_and}
use Rattle.grammar.specs.declared.rule.Symbol.{Symbol}
use Rattle.grammar.specs.declared.rule.Symbol.TheVariants.{Terminal, Nonterminal}
use Rattle.grammar.specs.declared.rule.Item.{Item}
use Rattle.grammar.specs.Model.{Model}
use Rattle.text.specs.declared.token.Token.{Token}
use Rattle.chart.specs.Cut.{first_begin, row_begin, past_end}
use Rattle.chart.specs.Readings.{Part, Row}
use Rattle.chart.proofs.Rows.{row_cons, cons_row, row_one, one_row, near_grows, row_grows}

-- the columns at which x covers i up to k, and xs divide k up to j, for some k below n
abbrev pub Cuts : Model → List Token → Item → List Item → ℕ → ℕ → ℕ → ℕ → Type 0
Cuts G ts x xs i j n c = (k : ℕ) × (i < k) × (k < n) × Near x.relation (Part G ts x.symbol i k) c × Row G ts xs k j c

module _ (G : Model) (ts : List Token) where
  pub one_means : (m r : ℕ) (x : Item) (i j : ℕ) → Means m (Part G ts x.symbol i j) → Means r (Near x.relation (Bit m))
      → Means r (Row G ts (x ∷ []) i j)
  one_means m r x i j e n = means_as (means_near m r x.relation e n) (one_row G ts x i j) (row_one G ts x i j)

  -- ---- where a cut can stand

  part_end : (s : Symbol) (i k j d : ℕ) → Part G ts s i k d → k < j → k < past_end s i j
  part_end (Terminal a) i k j d p l = omega (arith, p.0)
  part_end (Nonterminal b) i k j d p l = l

  part_begin : (s : Symbol) (i k j d : ℕ) → Part G ts s k j d → i < k → first_begin s i j ≤ k
  part_begin (Terminal a) i k j d p l = omega (arith, p.0)
  part_begin (Nonterminal b) i k j d p l = omega arith

  pub cut-end : (x y : Item) (xs : List Item) (i k j c : ℕ) → Near x.relation (Part G ts x.symbol i k) c → Row G ts (y ∷ xs) k j c
      → k < past_end x.symbol i j
  unfolding Near
  cut-end x y xs i k j c n r = part_end x.symbol i k j n.1.0 n.1.1 (omega (arith, row_grows G ts (y ∷ xs) k j c r))

  cut_begin : (y : Item) (i k j c : ℕ) → i < k → Row G ts (y ∷ []) k j c → first_begin y.symbol i j ≤ k
  unfolding Near
  cut_begin y i k j c l r = let n = row_one G ts y k j c r in part_begin y.symbol i k j n.1.0 n.1.1 l

  pub begins : (y : Item) (xs : List Item) (i k j c : ℕ) → i < k → Row G ts (y ∷ xs) k j c → row_begin (y ∷ xs) i j ≤ k
  begins y [] i k j c h r = cut_begin y i k j c h r
  begins y (z ∷ xs) i k j c h r = omega arith

  -- ---- cut by cut

  pub cuts_none : (x : Item) (xs : List Item) (i j n : ℕ) → ((k c : ℕ) → i < k → Row G ts xs k j c → n ≤ k) → Means 0 (Cuts G ts x xs i j n)
  cuts_none x xs i j n f = means_none (λ c q. omega (arith, f q.0 c q.1 q.4, q.2))

  pub cuts_more : (x : Item) (xs : List Item) (i j n all m a b : ℕ) → i < n → Means all (Cuts G ts x xs i j n)
      → Means m (Part G ts x.symbol i n) → Means a (Near x.relation (Bit m)) → Means b (Row G ts xs n j)
      → Means (bit_or all (bit_and a b)) (Cuts G ts x xs i j (n + 1))
  cuts_more x xs i j n all m a b l e p r q =
      means_as (means_or all (bit_and a b) e (means_and a b (means_near m a x.relation p r) q))
      (λ c. elim [ inl h ↦ (h.0, h.1, omega (arith, h.2), h.3, h.4) | inr h ↦ (n, l, omega arith, h.0, h.1) ])
      (λ c h. ⊎_elim (λ r. inl (h.0, h.1, r, h.3, h.4))
      (λ r.
      let o : h.0 ≡ n = omega (arith, h.2) in
      inr (subst (λ (k : ℕ). Near x.relation (Part G ts x.symbol i k) c × Row G ts xs k j c) o (h.3, h.4))) (cases_lt h.0 n))

  pub cuts_skip : (x : Item) (xs : List Item) (i j n all m : ℕ) → Means all (Cuts G ts x xs i j n)
      → Means m (Part G ts x.symbol i n) → m ≡ 0 → Means all (Cuts G ts x xs i j (n + 1))
  unfolding Near
  cuts_skip x xs i j n all m e p z =
      means_as e (λ c h. (h.0, h.1, omega (arith, h.2), h.3, h.4))
      (λ c h. ⊎_elim (λ r. (h.0, h.1, r, h.3, h.4))
      (λ r.
      let o : h.0 ≡ n = omega (arith, h.2) in
      let d = h.3.1.0 in
      absurd (bit_zero d (subst (λ (y : ℕ). Bit y d) z
      (p.whole d (subst (λ (k : ℕ). Part G ts x.symbol i k d) o h.3.1.1))))) (cases_lt h.0 n))

  pub cuts_all : (x y : Item) (xs : List Item) (i j n all : ℕ) → past_end x.symbol i j ≤ n → Means all (Cuts G ts x (y ∷ xs) i j n)
      → Means all (Row G ts (x ∷ y ∷ xs) i j)
  cuts_all x y xs i j n all l e =
      means_as e (λ c h. cons_row G ts x (y ∷ xs) i h.0 j c h.3 h.4)
      (λ c h.
      let q = row_cons G ts x (y ∷ xs) i j c h in
      (q.0, near_grows G ts x i q.0 c q.1, omega (arith, cut-end x y xs i q.0 j c q.1 q.2), q.1, q.2))
