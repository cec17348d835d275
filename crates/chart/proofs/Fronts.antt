-- A tree over the first tokens reads no others.
use Rattle.std.proofs.Common.{◌≡◌, ℕ, zero, suc, ◌+◌, ◌<◌, ◌≤◌, List, [], ◌∷◌, map, length, take, sym, refl, ◌∙◌, arith}
use Rattle.std.proofs.lemmas.List.{length-take-le}
use Rattle.std.specs.List.{slice_get}
use Rattle.grammar.specs.declared.rule.Item.{Item}
use Rattle.grammar.specs.Model.{Model}
use Rattle.grammar.specs.Several.{listed}
use Rattle.text.specs.declared.token.Token.{Token}
use Rattle.chart.specs.Trees.{Tree, Children, width, widths, Covers, Divide}
use Rattle.chart.specs.Fits.{Fits, Under}
use Rattle.chart.specs.Readings.{terminals, columns, Derives, Reading}

module _ (G : Model) (p : ℕ) (ks ls : List ℕ) (same : (k : ℕ) → k < p → slice_get ks k ≡ slice_get ls k) where
  mutual
    covers-same : (t : Tree) (A i : ℕ) → i + width t ≤ p → Covers G ks t A i → Covers G ls t A i
    covers-same (Tree.node r cs) A i l (rule, e, a, h) = (rule, e, a, divide_same cs (listed rule.items) i l h)

    divide_same : (cs : Children) (xs : List Item) (i : ℕ) → i + widths cs ≤ p → Divide G ks cs xs i → Divide G ls cs xs i
    divide_same Children.none [] i l h = h
    divide_same Children.none (x ∷ xs) i l h = h
    divide_same (Children.piece cs) [] i l h = h
    divide_same (Children.piece cs) (x ∷ xs) i l (a, e, n, h) =
        (a, e, sym (same i (omega arith)) ∙ n, divide_same cs xs (suc i) (omega arith) h)
    divide_same (Children.tree t cs) [] i l h = h
    divide_same (Children.tree t cs) (x ∷ xs) i l (b, e, n, h) =
        (b, e, covers-same t b i (omega arith) n, divide_same cs xs (i + width t) (omega arith) h)

  mutual
    fits-same : (t : Tree) (i c : ℕ) → i + width t ≤ p → Fits G ks t i c → Fits G ls t i c
    fits-same (Tree.node r cs) i c l (k, (rule, e, h)) = (k, (rule, e, under_same cs (listed rule.items) i c l h))

    under_same : (cs : Children) (xs : List Item) (i c : ℕ) → i + widths cs ≤ p → Under G ks cs xs i c → Under G ls cs xs i c
    under_same Children.none xs i c l h = h
    under_same (Children.piece cs) [] i c l h = h
    under_same (Children.piece cs) (x ∷ xs) i c l (d, n, k, m, h) =
        (d, sym (same i (omega arith)) ∙ n, k, m, under_same cs xs (suc i) c (omega arith) h)
    under_same (Children.tree t cs) [] i c l h = h
    under_same (Children.tree t cs) (x ∷ xs) i c l (d, n, m, h) =
        (d, fits-same t i d (omega arith) n, m, under_same cs xs (i + width t) c (omega arith) h)

nth-take : {X : Type 0} (f : X → ℕ) (p : ℕ) (xs : List X) (k : ℕ) → k < p → slice_get (map f (take p xs)) k ≡ slice_get (map f xs) k
nth-take f zero xs k l = absurd (omega arith)
nth-take f (suc p) [] k l = refl
nth-take f (suc p) (x ∷ xs) zero l = refl
nth-take f (suc p) (x ∷ xs) (suc k) l = nth-take f p xs k (omega arith)

module _ (G : Model) (ts : List Token) (A p : ℕ) (l : p ≤ length ts) where
  pub front_reading : (c : ℕ) → Derives G ts A 0 p c → (t : Tree) × Reading G (take p ts) A t
  unfolding Derives
  front_reading c (t, w, h, f) = (
    t,
    record {
      covers = covers-same G p (terminals ts) (terminals (take p ts)) (λ k m. sym (nth-take (λ (y : Token). y.terminal) p ts k m)) t
          A 0 (omega arith) h;
      all = omega (arith, length-take-le p ts l);
      fits = (
        c,
        fits-same G p (columns ts) (columns (take p ts)) (λ k m. sym (nth-take (λ (y : Token). y.column) p ts k m)) t 0 c
            (omega arith) f,
      );
    },
  )

  pub reading_front : (t : Tree) → Reading G (take p ts) A t → (c : ℕ) × Derives G ts A 0 p c
  unfolding Derives
  reading_front t r =
      let w : width t ≡ p = r.all ∙ length-take-le p ts l in (
        r.fits.0,
        (
          t,
          omega arith,
          covers-same G p (terminals (take p ts)) (terminals ts) (λ k m. nth-take (λ (y : Token). y.terminal) p ts k m) t A 0
              (omega arith) r.covers,
          fits-same G p (columns (take p ts)) (columns ts) (λ k m. nth-take (λ (y : Token). y.column) p ts k m) t 0 r.fits.0
              (omega arith) r.fits.1,
        ),
      )

pub reading_derives : (G : Model) (ts : List Token) (A : ℕ) (t : Tree) → Reading G ts A t → (c : ℕ) × Derives G ts A 0 (length ts) c
unfolding Derives
reading_derives G ts A t r = (r.fits.0, (t, omega (arith, r.all), r.covers, r.fits.1))
