-- Rows of items and nodes: taken apart, and put together.
use Rattle.std.proofs.Common.{◌≡◌, ℕ, suc, ◌+◌, ◌<◌, ◌≤◌, List, [], ◌∷◌, length, Some, None, Option, sym, refl, subst, arith}
use Rattle.std.specs.List.{slice_get}
use Rattle.columns.specs.Relation.{Meets}
use Rattle.columns.specs.Mask.{Near}
use Rattle.grammar.specs.declared.rule.Symbol.{Symbol}
use Rattle.grammar.specs.declared.rule.Symbol.TheVariants.{Terminal, Nonterminal}
use Rattle.grammar.specs.declared.rule.Item.{Item}
use Rattle.grammar.specs.Model.{Items}
use Rattle.grammar.specs.declared.several.Several.TheVariants.{One, Two, Three}
use Rattle.grammar.specs.declared.rule.Rule.{Rule}
use Rattle.grammar.specs.Model.{Model}
use Rattle.grammar.specs.Several.{listed}
use Rattle.text.specs.declared.token.Token.{Token}
use Rattle.chart.specs.Trees.{Tree, Children, width, widths, Covers, Divide}
use Rattle.chart.specs.Fits.{Under}
use Rattle.chart.specs.Readings.{terminals, columns, Derives, Part, Row, ByRule}

pub same_some : {X : Type 0} (o : Option X) (p q : X) → o ≡ Some p → o ≡ Some q → p ≡ q
same_some o p q e f = cc

pub not_both : {X : Type 0} (o : Option X) (p : X) → o ≡ Some p → o ≡ None → ⊥
not_both o p e f = let z : ◌≡◌ {A = ℕ} 0 1 = cc in omega arith

module _ (G : Model) (ts : List Token) where
  -- ---- an item

  pub piece-part : (s : Symbol) (a i d : ℕ) → s ≡ Terminal a → slice_get (terminals ts) i ≡ Some a
      → slice_get (columns ts) i ≡ Some d → d < 64
      → Part G ts s i (suc i) d
  piece-part s a i d e h k l = subst (λ (x : Symbol). Part G ts x i (suc i) d) (sym e) (refl, h, k, l)

  pub tree-part : (s : Symbol) (b i k d : ℕ) → s ≡ Nonterminal b → Derives G ts b i k d → Part G ts s i k d
  tree-part s b i k d e h = subst (λ (x : Symbol). Part G ts x i k d) (sym e) h

  -- ---- a row of items

  children-cons : (cs : Children) (x : Item) (xs : List Item) (i j c : ℕ) → c < 64 → i + widths cs ≡ j
      → Divide G (terminals ts) cs (x ∷ xs) i → Under G (columns ts) cs (x ∷ xs) i c
      → (k : ℕ) × Near x.relation (Part G ts x.symbol i k) c × Row G ts xs k j c
  unfolding Row Near Derives
  children-cons Children.none x xs i j c l w h f = absurd h
  children-cons (Children.piece cs) x xs i j c l w h f =
      (suc i, (l, (f.0, piece-part x.symbol h.0 i f.0 h.1 h.2 f.1 f.2, f.3)), (l, (cs, omega arith, h.3, f.4)))
  children-cons (Children.tree t cs) x xs i j c l w h f = (
    i + width t,
    (l, (f.0, tree-part x.symbol h.0 i (i + width t) f.0 h.1 (t, refl, h.2, f.1), f.2)),
    (l, (cs, omega arith, h.3, f.3)),
  )

  pub row_cons : (x : Item) (xs : List Item) (i j c : ℕ) → Row G ts (x ∷ xs) i j c
      → (k : ℕ) × Near x.relation (Part G ts x.symbol i k) c × Row G ts xs k j c
  unfolding Row
  row_cons x xs i j c h = children-cons h.1.0 x xs i j c h.0 h.1.1 h.1.2 h.1.3

  -- by cases of the symbol
  part_row : (s : Symbol) (x : Item) (xs : List Item) (i k j c d : ℕ) → x.symbol ≡ s → Part G ts s i k d → Meets x.relation c d
      → Row G ts xs k j c → Row G ts (x ∷ xs) i j c
  unfolding Row Derives
  part_row (Terminal a) x xs i k j c d e p m (l, (cs, w, h, f)) =
      let q : suc i + widths cs ≡ j = omega (arith, p.0) in (
        l,
        (
          Children.piece cs,
          omega arith,
          (a, e, p.1, subst (Divide G (terminals ts) cs xs) p.0 h),
          (d, p.2, p.3, m, subst (λ (n : ℕ). Under G (columns ts) cs xs n c) p.0 f),
        ),
      )
  part_row (Nonterminal b) x xs i k j c d e p m (l, (cs, w, h, f)) =
      let q = p.1 in (
        l,
        (
          Children.tree p.0 cs,
          omega arith,
          (b, e, p.2, subst (Divide G (terminals ts) cs xs) (sym q) h),
          (d, p.3, m, subst (λ (n : ℕ). Under G (columns ts) cs xs n c) (sym q) f),
        ),
      )

  pub cons_row : (x : Item) (xs : List Item) (i k j c : ℕ) → Near x.relation (Part G ts x.symbol i k) c → Row G ts xs k j c
      → Row G ts (x ∷ xs) i j c
  unfolding Near
  cons_row x xs i k j c n h = part_row x.symbol x xs i k j c n.1.0 refl n.1.1 n.1.2 h

  divide_nil : (cs : Children) (i : ℕ) → Divide G (terminals ts) cs [] i → widths cs ≡ 0
  divide_nil Children.none i h = refl
  divide_nil (Children.piece cs) i h = absurd h
  divide_nil (Children.tree t cs) i h = absurd h

  pub row_nil : (i j c : ℕ) → Row G ts [] i j c → i ≡ j
  unfolding Row
  row_nil i j c h = omega (arith, divide_nil h.1.0 i h.1.2, h.1.1)

  pub nil_row : (i c : ℕ) → c < 64 → Row G ts [] i i c
  unfolding Row
  nil_row i c l = (l, (Children.none, omega arith, tt, tt))

  pub row_one : (x : Item) (i j c : ℕ) → Row G ts (x ∷ []) i j c → Near x.relation (Part G ts x.symbol i j) c
  row_one x i j c h =
      let q = row_cons x [] i j c h in
      subst (λ (k : ℕ). Near x.relation (Part G ts x.symbol i k) c) (row_nil q.0 j c q.2) q.1

  pub one_row : (x : Item) (i j c : ℕ) → Near x.relation (Part G ts x.symbol i j) c → Row G ts (x ∷ []) i j c
  unfolding Near
  one_row x i j c n = cons_row x [] i j j c n (nil_row j c n.0)

  -- ---- a node

  pub derives_rule : (A i j c : ℕ) → Derives G ts A i j c → (r : ℕ) × ByRule G ts r A i j c
  unfolding Derives Row
  derives_rule A i j c (Tree.node r cs, w, h, f) =
      let e = same_some (slice_get G.rules r) f.1.0 h.0 f.1.1 h.1 in
      (r, (h.0, h.1, h.2, (f.0, (cs, w, h.3, subst (λ (x : Rule). Under G (columns ts) cs (listed x.items) i c) e f.1.2))))

  pub rule_derives : (A i j c r : ℕ) → ByRule G ts r A i j c → Derives G ts A i j c
  unfolding Derives Row
  rule_derives A i j c r (rule, e, l, (k, (cs, w, h, f))) = (Tree.node r cs, w, (rule, e, l, h), (k, (rule, e, f)))

  -- ---- each item covers a piece

  listed-some : (xs : Items) → 1 ≤ length (listed xs)
  listed-some (One x) = omega arith
  listed-some (Two x y) = omega arith
  listed-some (Three x y z) = omega arith

  mutual
    covers-some : (t : Tree) (A i : ℕ) → Covers G (terminals ts) t A i → 0 < width t
    covers-some (Tree.node r cs) A i h = omega (arith, divide_some cs (listed h.0.items) i h.3, listed-some h.0.items)

    divide_some : (cs : Children) (xs : List Item) (i : ℕ) → Divide G (terminals ts) cs xs i → length xs ≤ widths cs
    divide_some Children.none [] i h = omega arith
    divide_some Children.none (x ∷ xs) i h = absurd h
    divide_some (Children.piece cs) [] i h = absurd h
    divide_some (Children.piece cs) (x ∷ xs) i h = omega (arith, divide_some cs xs (suc i) h.3)
    divide_some (Children.tree t cs) [] i h = absurd h
    divide_some (Children.tree t cs) (x ∷ xs) i h = omega (arith, divide_some cs xs (i + width t) h.3, covers-some t h.0 i h.2)

  pub row_grows : (xs : List Item) (i j c : ℕ) → Row G ts xs i j c → i + length xs ≤ j
  unfolding Row
  row_grows xs i j c h = omega (arith, divide_some h.1.0 xs i h.1.2, h.1.1)

  pub row_column : (xs : List Item) (i j c : ℕ) → Row G ts xs i j c → c < 64
  unfolding Row
  row_column xs i j c h = h.0

  pub part-grows : (s : Symbol) (i j d : ℕ) → Part G ts s i j d → i < j
  unfolding Derives
  part-grows (Terminal a) i j d h = omega arith
  part-grows (Nonterminal b) i j d h = omega (arith, covers-some h.0 b i h.2, h.1)

  pub near_grows : (x : Item) (i j c : ℕ) → Near x.relation (Part G ts x.symbol i j) c → i < j
  unfolding Near
  near_grows x i j c h = part-grows x.symbol i j h.1.0 h.1.1
