-- Whether items can divide tokens can be decided, if it can be for the parts.
use Rattle.std.proofs.Common.{◌≡◌, ℕ, suc, ◌+◌, ◌-◌, ◌<◌, ◌≤◌, List, [], ◌∷◌, length, refl, subst, inl, inr, ⊎_elim, arith}
use Rattle.std.specs.List.{slice_get, AllByRecursion}
use Rattle.std.proofs.lemmas.Bool.{cases_lt, cases_eq}
use Rattle.columns.specs.Relation.{Meets}
use Rattle.columns.specs.Mask.{Near}
use Rattle.grammar.specs.declared.rule.Symbol.{Symbol}
use Rattle.grammar.specs.declared.rule.Symbol.TheVariants.{Terminal, Nonterminal}
use Rattle.grammar.specs.declared.rule.Item.{Item}
use Rattle.grammar.specs.Model.{Model}
use Rattle.text.specs.declared.token.Token.{Token}
use Rattle.chart.specs.Trees.{Tree}
use Rattle.chart.specs.Readings.{terminals, columns, Derives, Part, Row}
use Rattle.chart.proofs.Rows.{row_cons, cons_row, row_nil, nil_row, row_grows, row_column, near_grows}
use Rattle.chart.proofs.Trying.{Decided, try_below, decided_both, decided_as, decided_lt, decided_some, decided_meets}

module _ (G : Model) (ts : List Token) where
  pub derives_column : (A i j c : ℕ) → Derives G ts A i j c → c < 64
  unfolding Derives
  derives_column A i j c (Tree.node r cs, w, h, f) = f.0

  pub part-column : (s : Symbol) (i j d : ℕ) → Part G ts s i j d → d < 64
  part-column (Terminal a) i j d h = h.3
  part-column (Nonterminal b) i j d h = derives_column b i j d h

  pub decided_part : (s : Symbol) (i j d : ℕ) → ((b : ℕ) → s ≡ Nonterminal b → Decided (Derives G ts b i j d)) → Decided (Part G ts s i j d)
  decided_part (Terminal a) i j d f =
      decided_as (λ h. (h.0, h.1.0, h.1.1.0, h.1.1.1)) (λ h. (h.0, (h.1, (h.2, h.3))))
      (decided_both (cases_eq j (suc i)) (decided_both (decided_some (slice_get (terminals ts) i) a)
      (decided_both (decided_some (slice_get (columns ts) i) d) (decided_lt d 64))))
  decided_part (Nonterminal b) i j d f = f b refl

  pub decided_near : (x : Item) (i j c : ℕ) → ((d : ℕ) → Decided (Part G ts x.symbol i j d)) → Decided (Near x.relation (Part G ts
      x.symbol i j) c)
  unfolding Near
  decided_near x i j c f =
      ⊎_elim
      (λ l. ⊎_elim (λ h. inl (l, (h.0, h.2.0.0, h.2.0.1)))
      (λ g. inr (λ n. g n.1.0 (part-column x.symbol i j n.1.0 n.1.1) (n.1.1, n.1.2)))
      (try_below (λ d. Part G ts x.symbol i j d × Meets x.relation c d) 64 (λ d h. decided_both (f d) (decided_meets x.relation c d))))
      (λ l. inr (λ n. omega (arith, n.0))) (cases_lt c 64)

  -- the stretches of the items end at j or before, and have at most W tokens, or fewer where another item stands beside them
  module _ (j W slack : ℕ) (P : Item → Type 0)
      (decide : (x : Item) → P x → (k m d : ℕ) → k < m → m ≤ j → (m - k) + slack ≤ W → Decided (Part G ts x.symbol k m d)) where
    -- the first item ends at k, and the others go on from there
    pub decided_cut : (x : Item) (xs : List Item) (i c k : ℕ) → P x → k + length xs ≤ j → (j - i) + slack ≤ W + length xs
        → Decided (Row G ts xs k j c) → Decided (Near x.relation (Part G ts x.symbol i k) c × Row G ts xs k j c)
    decided_cut x xs i c k p l w r =
        ⊎_elim
        (λ h. decided_both (decided_near x i k c (λ d. decide x p i k d h (omega arith) (omega arith))) r)
        (λ h. inr (λ n. omega (arith, near_grows G ts x i k c n.0))) (cases_lt i k)

    pub decided_row : (xs : List Item) (i c : ℕ) → AllByRecursion P xs → slack ≤ 1 → j - i ≤ W
        → (j - i) + slack ≤ W + (length xs - 1) → Decided
        (Row G ts xs i j c)
    decided_row [] i c p s v w =
        ⊎_elim
        (λ l. ⊎_elim (λ e. inl (subst (λ (m : ℕ). Row G ts [] i m c) e (nil_row G ts i c l))) (λ n. inr (λ r. n (row_nil G ts i j c r)))
        (cases_eq i j))
        (λ l. inr (λ r. omega (arith, row_column G ts [] i j c r))) (cases_lt c 64)
    decided_row (x ∷ xs) i c p s v w =
        ⊎_elim (λ h. inl (cons_row G ts x xs i h.0 j c h.2.0.0 h.2.0.1))
        (λ g. inr (λ r.
        let q = row_cons G ts x xs i j c r in
        g q.0 (omega (arith, row_grows G ts xs q.0 j c q.2)) (q.1, q.2)))
        (try_below (λ k. Near x.relation (Part G ts x.symbol i k) c × Row G ts xs k j c) (suc j - length xs)
        (λ k l. ⊎_elim
        (λ h. decided_cut x xs i c k p.0 (omega arith) (omega arith) (decided_row xs k c p.1 s (omega arith) (omega arith)))
        (λ h. inr (λ n. omega (arith, near_grows G ts x i k c n.0))) (cases_lt i k)))
