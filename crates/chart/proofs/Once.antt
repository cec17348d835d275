-- A first tree is a tree that fits, and there is at most one.
use Rattle.std.proofs.Common.{◌≡◌, ℕ, suc, ◌+◌, ◌<◌, List, [], ◌∷◌, length, Some, sym, refl, ap, ◌∙◌, subst, ap₂, ⊎_elim, arith}
use Rattle.std.specs.List.{slice_get}
use Rattle.std.proofs.lemmas.Bool.{cases_order}
use Rattle.columns.specs.Relation.{Meets}
use Rattle.columns.specs.Mask.{Near}
use Rattle.grammar.specs.declared.rule.Symbol.{Symbol}
use Rattle.grammar.specs.declared.rule.Symbol.TheVariants.{Terminal, Nonterminal}
use Rattle.grammar.specs.declared.rule.Item.{Item}
use Rattle.grammar.specs.declared.rule.Rule.{Rule}
use Rattle.grammar.specs.Model.{Model}
use Rattle.grammar.specs.Several.{listed}
use Rattle.text.specs.declared.token.Token.{Token}
use Rattle.chart.specs.Trees.{Tree, Children, width, widths, Covers, Divide}
use Rattle.chart.specs.Fits.{Fits, Under}
use Rattle.chart.specs.Readings.{terminals, columns, Derives, Part, Row, ByRule, Reading}
use Rattle.chart.specs.First.{Least, First, Firsts, FirstReading, FirstReads, FirstIsOne}
use Rattle.chart.proofs.Rows.{same_some, row_column}

-- the least of its kind is one
least-one : (P : ℕ → Type 0) (a b : ℕ) → P a → P b → ((q : ℕ) → q < a → P q → ⊥) → ((q : ℕ) → q < b → P q → ⊥) → a ≡ b
least-one P a b p q f g = ⊎_elim (λ e. e) (⊎_elim (λ l. absurd (g a l p)) (λ l. absurd (f b l q))) (cases_order a b)

one-nonterminal : (s : Symbol) (a b : ℕ) → s ≡ Nonterminal a → s ≡ Nonterminal b → a ≡ b
one-nonterminal s a b e f = cc

pub not_both_kinds : (s : Symbol) (a b : ℕ) → s ≡ Terminal a → s ≡ Nonterminal b → ⊥
not_both_kinds s a b e f = let z : ◌≡◌ {A = ℕ} 0 1 = cc in omega arith

module _ (G : Model) (ts : List Token) where
  -- what covers the tokens from i on up to j and fits at column c
  Stands : Tree → ℕ → ℕ → ℕ → ℕ → Type 0
  Stands t A i j c = (i + width t ≡ j) × Covers G (terminals ts) t A i × Fits G (columns ts) t i c

  StandUnder : Children → List Item → ℕ → ℕ → ℕ → Type 0
  StandUnder cs xs i j c = (i + widths cs ≡ j) × Divide G (terminals ts) cs xs i × Under G (columns ts) cs xs i c

  piece_at : (s : Symbol) (a i j d : ℕ) → s ≡ Terminal a → Part G ts s i j d
      → (slice_get (terminals ts) i ≡ Some a) × (slice_get (columns ts) i ≡ Some d) × (d < 64)
  piece_at s a i j d e p = let q : Part G ts (Terminal a) i j d = subst (λ (x : Symbol). Part G ts x i j d) e p in (q.1, q.2, q.3)

  mutual
    unfolding Stands StandUnder Near

    first_stands : (t : Tree) (A i j c : ℕ) → First G ts t A i j c → Stands t A i j c
    first_stands (Tree.node r cs) A i j c (l, (rule, e, f)) =
        let o = l.fits in
        let q = same_some (slice_get G.rules r) o.0 rule o.1 e in
        let u = firsts_stand cs (listed rule.items) i j c f in (
          u.0,
          (rule, e, ap (λ (x : Rule). x.left) (sym q) ∙ o.2, u.1),
          (row_column G ts (listed o.0.items) i j c o.3, (rule, e, u.2)),
        )

    firsts_stand : (cs : Children) (xs : List Item) (i j c : ℕ) → Firsts G ts cs xs i j c → StandUnder cs xs i j c
    firsts_stand Children.none [] i j c f = (omega arith, tt, tt)
    firsts_stand Children.none (x ∷ xs) i j c f = absurd f
    firsts_stand (Children.piece cs) [] i j c f = absurd f
    firsts_stand (Children.piece cs) (x ∷ xs) i j c (a, e, s, f) =
        let u = firsts_stand cs xs (suc i) j c f in
        let n = s.front.1 in
        let p = piece_at x.symbol a i (suc i) n.0 e n.1 in
        (omega arith, (a, e, p.0, u.1), (n.0, p.1, p.2, n.2, u.2))
    firsts_stand (Children.tree t cs) [] i j c f = absurd f
    firsts_stand (Children.tree t cs) (x ∷ xs) i j c (b, k, d, e, s, l, f, g) =
        let o = first_stands t b i k d f in
        let u = firsts_stand cs xs k j c g in (
          omega arith,
          (b, e, o.1, subst (Divide G (terminals ts) cs xs) (sym o.0) u.1),
          (d, o.2, l.meets, subst (λ (n : ℕ). Under G (columns ts) cs xs n c) (sym o.0) u.2),
        )

  pub first_derives : (t : Tree) (A i j c : ℕ) → First G ts t A i j c → Derives G ts A i j c
  unfolding Derives Stands
  first_derives t A i j c f = let s = first_stands t A i j c f in (t, s.0, s.1, s.2)

  pub first_reading : (A : ℕ) (t : Tree) → FirstReading G ts A t → Reading G ts A t
  unfolding Stands
  first_reading A t (c, f, l) =
      let s = first_stands t A 0 (length ts) c f in
      record { covers = s.1; all = omega (arith, s.0); fits = (c, s.2) }

  mutual
    first_one : (t u : Tree) (A i j c : ℕ) → First G ts t A i j c → First G ts u A i j c → t ≡ u
    first_one (Tree.node r cs) (Tree.node q ds) A i j c (l, (rule, e, f)) (m, (rule', e', g)) =
        let o : r ≡ q = least-one (λ x. ByRule G ts x A i j c) r q l.fits m.fits l.least m.least in
        let s : rule' ≡ rule = same_some (slice_get G.rules r) rule' rule
        (subst (λ (x : ℕ). slice_get G.rules x ≡ Some rule') (sym o) e') e in
        ap₂ Tree.node o (firsts_one cs ds (listed rule.items) i j c f
        (subst (λ (x : Rule). Firsts G ts ds (listed x.items) i j c) s g))

    firsts_one : (cs ds : Children) (xs : List Item) (i j c : ℕ) → Firsts G ts cs xs i j c → Firsts G ts ds xs i j c → cs ≡ ds
    firsts_one Children.none Children.none xs i j c f g = refl
    firsts_one Children.none (Children.piece ds) [] i j c f g = absurd g
    firsts_one Children.none (Children.piece ds) (x ∷ xs) i j c f g = absurd f
    firsts_one Children.none (Children.tree u ds) [] i j c f g = absurd g
    firsts_one Children.none (Children.tree u ds) (x ∷ xs) i j c f g = absurd f
    firsts_one (Children.piece cs) ds [] i j c f g = absurd f
    firsts_one (Children.piece cs) Children.none (x ∷ xs) i j c f g = absurd g
    firsts_one (Children.piece cs) (Children.piece ds) (x ∷ xs) i j c f g =
        ap Children.piece (firsts_one cs ds xs (suc i) j c f.3 g.3)
    firsts_one (Children.piece cs) (Children.tree u ds) (x ∷ xs) i j c f g = absurd (not_both_kinds x.symbol f.0 g.0 f.1 g.3)
    firsts_one (Children.tree t cs) ds [] i j c f g = absurd f
    firsts_one (Children.tree t cs) Children.none (x ∷ xs) i j c f g = absurd g
    firsts_one (Children.tree t cs) (Children.piece ds) (x ∷ xs) i j c f g = absurd (not_both_kinds x.symbol g.0 f.0 g.1 f.3)
    firsts_one (Children.tree t cs) (Children.tree u ds) (x ∷ xs) i j c (b, k, d, e, s, l, f, g) (b', k', d', e', s', l', f', g') =
        let bs : b' ≡ b = one-nonterminal x.symbol b' b e' e in
        let ks : k' ≡ k = least-one (λ m. Near x.relation (Part G ts x.symbol i m) c × Row G ts xs m j c) k' k
        (s'.front, s'.back) (s.front, s.back)
        (λ q h o. s'.least q h o.0 o.1) (λ q h o. s.least q h o.0 o.1) in
        let l'' : Least G ts x i k c d' = subst (λ (m : ℕ). Least G ts x i m c d') ks l' in
        let es : d' ≡ d = least-one (λ y. Meets x.relation c y × Part G ts x.symbol i k y) d' d (l''.meets, l''.part)
        (l.meets, l.part)
        (λ q h o. l''.least q h o.0 o.1) (λ q h o. l.least q h o.0 o.1) in
        let f'' : First G ts u b i k d = subst (λ (y : ℕ). First G ts u b i k y) es
        (subst (λ (m : ℕ). First G ts u b i m d') ks (subst (λ (y : ℕ). First G ts u y i k' d') bs f')) in
        ap₂ Children.tree (first_one t u b i k d f f'') (firsts_one cs ds xs k j c g (subst (λ (m : ℕ). Firsts G ts ds xs m j c) ks g'))

pub all_read : FirstReads
all_read G ts A t f = first_reading G ts A t f

pub all_one : FirstIsOne
all_one G ts A t u f g =
    let e : g.0 ≡ f.0 = least-one (λ c. Derives G ts A 0 (length ts) c) g.0 f.0 (first_derives G ts u A 0 (length ts) g.0 g.1)
    (first_derives G ts t A 0 (length ts) f.0 f.1) g.2 f.2 in
    first_one G ts t u A 0 (length ts) f.0 f.1 (subst (λ (c : ℕ). First G ts u A 0 (length ts) c) e g.1)
