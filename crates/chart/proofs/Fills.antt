-- A chart that is filled number by number.
use Rattle.std.proofs.Common.{ℕ, ◌+◌, ◌<◌, ◌≤◌, ◌≢◌, List, length, set, sym, subst, ⊎_elim, arith, get_or-set_other, get_or-set_same}
use Rattle.std.proofs.lemmas.Bool.{cases_eq}
use Rattle.columns.specs.Mask.{Means}
use Rattle.grammar.specs.Model.{Model}
use Rattle.text.specs.declared.token.Token.{Token}
use Rattle.chart.specs.Place.{cell_place}
use Rattle.chart.specs.Readings.{Derives}
use Rattle.chart.specs.Chart.{Exact, Done}
use Rattle.chart.proofs.Places.{place_apart}

-- exact are the numbers for i up to j of the nonterminals from a on, and all that came before
pub record Stretch (G : Model) (ts : List Token) (cs : List ℕ) (a i j : ℕ) : Type 0 where
  pub before : Done G ts cs (i + 1) j
  pub here : (b : ℕ) → a ≤ b → b < G.nonterminals → Exact G ts cs b i j

module _ (G : Model) (ts : List Token) where
  exact_other : (cs : List ℕ) (p v b k m : ℕ) → cell_place G.nonterminals b k m ≢ p → Exact G ts cs b k m → Exact G ts (set cs p v) b k m
  unfolding Exact
  exact_other cs p v b k m ne e = rw get_or-set_other e

  exact_same : (cs : List ℕ) (v a i j : ℕ) → cell_place G.nonterminals a i j < length cs → Means v (Derives G ts a i j)
      → Exact G ts (set cs (cell_place G.nonterminals a i j) v) a i j
  unfolding Exact
  exact_same cs v a i j l e = rw get_or-set_same e

  pub stretch_more : (cs : List ℕ) (v a i j : ℕ) → cell_place G.nonterminals a i j < length cs → a < G.nonterminals → i < j
      → Stretch G ts cs (a + 1) i j
      → Means v (Derives G ts a i j) → Stretch G ts (set cs (cell_place G.nonterminals a i j) v) a i j
  stretch_more cs v a i j o h l s e = record {
    before = λ B k m x y z u. exact_other cs _ v B k m
        (λ q. let t = place_apart G.nonterminals B k m a i j x h y l q in omega (arith, t.1, t.2)) (s.before B k m x y z u);
    here = λ b x y. ⊎_elim
        (λ q. subst (λ (n : ℕ). Exact G ts (set cs (cell_place G.nonterminals a i j) v) n i j) q
        (exact_same cs v a i j o e))
        (λ q. exact_other cs _ v b i j (λ r. q (sym (place_apart G.nonterminals b i j a i j y h l l r).0))
        (s.here b (omega arith) y))
        (cases_eq a b);
  }

  pub stretch_end : (cs : List ℕ) (i j : ℕ) → Stretch G ts cs 0 i j → Done G ts cs i j
  stretch_end cs i j s B k m h l p q =
      ⊎_elim
      (λ e. ⊎_elim
      (λ f. subst (λ (x : ℕ). Exact G ts cs B x m) f (subst (λ (x : ℕ). Exact G ts cs B i x) (sym e) (s.here B (omega arith) h)))
      (λ f. s.before B k m h l p (λ e'. omega (arith, q e'))) (cases_eq i k))
      (λ e. s.before B k m h l p (λ e'. absurd (e e'))) (cases_eq m j)
