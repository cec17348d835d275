-- Where items can divide tokens, first trees for them can be found, if they can be for the parts.
use Rattle.std.proofs.Common.{◌≡◌, ℕ, suc, ◌+◌, ◌-◌, ◌<◌, ◌≤◌, List, [], ◌∷◌, length, refl, subst, inr, ⊎_elim, arith}
use Rattle.std.specs.List.{AllByRecursion}
use Rattle.std.proofs.lemmas.Bool.{cases_lt}
use Rattle.columns.specs.Relation.{Meets}
use Rattle.columns.specs.Mask.{Near}
use Rattle.grammar.specs.declared.rule.Symbol.{Symbol}
use Rattle.grammar.specs.declared.rule.Symbol.TheVariants.{Terminal, Nonterminal}
use Rattle.grammar.specs.declared.rule.Item.{Item}
use Rattle.grammar.specs.Model.{Model}
use Rattle.text.specs.declared.token.Token.{Token}
use Rattle.chart.specs.Trees.{Tree, Children}
use Rattle.chart.specs.Readings.{Derives, Part, Row}
use Rattle.chart.specs.First.{First, Firsts, Shortest, Least}
use Rattle.chart.proofs.Rows.{row_cons, row_nil, row_grows, near_grows}
use Rattle.chart.proofs.Trying.{Decided, lowest_of, decided_both, decided_meets}
use Rattle.chart.proofs.Decides.{part-column, decided_cut, decided_row}

module _ (G : Model) (ts : List Token) (j W slack : ℕ) (P : Item → Type 0)
    (decide : (x : Item) → P x → (k m d : ℕ) → k < m → m ≤ j → (m - k) + slack ≤ W → Decided (Part G ts x.symbol k m d))
    (find : (x : Item) → P x → (b k m d : ℕ) → x.symbol ≡ Nonterminal b → k < m → m ≤ j → (m - k) + slack ≤ W → Derives G ts b k m d
    → (t : Tree) × First G ts t b k m d) where
  -- the least column of an item
  least-found : (x : Item) (i k c : ℕ) → P x → i < k → k ≤ j → (k - i) + slack ≤ W → Near x.relation (Part G ts x.symbol i k) c
      → (d : ℕ) × Least G ts x i k c d
  unfolding Near
  least-found x i k c p h l w n =
      let o = lowest_of (λ d. Meets x.relation c d × Part G ts x.symbol i k d) 64
      (λ d z. decided_both (decided_meets x.relation c d) (decide x p i k d h l w)) n.1.0 (part-column G ts x.symbol i k n.1.0 n.1.1)
      (n.1.2, n.1.1) in
      (o.0, record { meets = o.2.0.0; part = o.2.0.1; least = λ e z m q. o.2.1 e z (m, q) })

  -- the tree or the piece of the first item, in front of the others
  item-found : (x : Item) (xs : List Item) (s : Symbol) (i k c : ℕ) (cs : Children) → P x → x.symbol ≡ s → k + length xs ≤ j → (j - i) +
      slack ≤ W + length xs
      → Shortest G ts x xs i j c k → Firsts G ts cs xs k j c → (ds : Children) × Firsts G ts ds (x ∷ xs) i j c
  unfolding Near
  item-found x xs (Terminal a) i k c cs p e l w s f =
      let n = s.front.1 in
      let o : k ≡ suc i = (subst (λ (y : Symbol). Part G ts y i k n.0) e n.1).0 in
      (Children.piece cs, (a, e, subst (λ (m : ℕ). Shortest G ts x xs i j c m) o s, subst (λ (m : ℕ). Firsts G ts cs xs m j c) o f))
  item-found x xs (Nonterminal b) i k c cs p e l w s f =
      let h = near_grows G ts x i k c s.front in
      let d = least-found x i k c p h (omega arith) (omega arith) s.front in
      let t = find x p b i k d.0 e h (omega arith) (omega arith) (subst (λ (y : Symbol). Part G ts y i k d.0) e d.1.part) in
      (Children.tree t.0 cs, (b, k, d.0, e, s, d.1, t.1, f))

  pub row_found : (xs : List Item) (i c : ℕ) → AllByRecursion P xs → slack ≤ 1 → j - i ≤ W → (j - i) + slack ≤ W + (length xs - 1)
      → Row G ts xs i j c
      → (cs : Children) × Firsts G ts cs xs i j c
  row_found [] i c p s v w r = (Children.none, row_nil G ts i j c r)
  row_found (x ∷ xs) i c p s v w r =
      let q = row_cons G ts x xs i j c r in
      let o = lowest_of (λ k. Near x.relation (Part G ts x.symbol i k) c × Row G ts xs k j c) (suc j - length xs)
      (λ k l. ⊎_elim
      (λ h. decided_cut G ts j W slack P decide x xs i c k p.0 (omega arith) (omega arith)
      (decided_row G ts j W slack P decide xs k c p.1 s (omega arith) (omega arith)))
      (λ h. inr (λ n. omega (arith, near_grows G ts x i k c n.0))) (cases_lt i k))
      q.0 (omega (arith, row_grows G ts xs q.0 j c q.2)) (q.1, q.2) in
      let k = o.0 in
      let h = near_grows G ts x i k c o.2.0.0 in
      let u = row_found xs k c p.1 s (omega (arith, o.1)) (omega (arith, o.1)) o.2.0.1 in
      item-found x xs x.symbol i k c u.0 p.0 refl (omega (arith, o.1)) (omega arith)
      record { front = o.2.0.0; back = o.2.0.1; least = λ m z a b. o.2.1 m z (a, b) } u.1
