-- What is known of a filled chart: whether there is a tree can be decided, so the numbers tell it.
use Rattle.std.proofs.Common.{ℕ, ◌-◌, ◌<◌, ◌≤◌, List, length, subst, ⊎_elim, arith}
use Rattle.std.proofs.Math.Logic.{∥∥₁_elim}
use Rattle.std.specs.Coded.{coded_ℕ}
use base.Stored.{Coded-set}
use Rattle.std.specs.List.{AllByRecursion}
use Rattle.columns.specs.Mask.{Bit}
use Rattle.grammar.specs.declared.rule.Item.{Item}
use Rattle.grammar.specs.declared.rule.Symbol.{Symbol}
use Rattle.grammar.specs.declared.grammar.Grammar.{Ghosts}
use Rattle.grammar.specs.Lawful.{Below, Lawful}
use Rattle.chart.specs.Place.{nodes_of}
use Rattle.chart.specs.declared.stretch.Stretch.{Stretch}
use Rattle.chart.specs.declared.filled.FilledChart.{FilledChart}
use Rattle.chart.specs.Chart.{Within, AllBelow, Exact, Inner, Upper, Known, Lone, under, inside}
use Rattle.chart.proofs.Exists.{decided_derives}

module _ {X : Type 0} {grammar : Ghosts X} (filled : FilledChart X grammar)
    (law : Lawful (grammar.model filled.chart.grammar.now)) where
  pub exact : (A i j : ℕ) → A < (grammar.model filled.chart.grammar.now).nonterminals → i < j → j ≤ length filled.chart.tokens.now
      → inside filled.chart Exact A i j
  unfolding Exact Bit
  exact A i j a l h =
      let G = grammar.model filled.chart.grammar.now in
      record {
        sound = λ c b. ⊎_elim (λ d. d)
            (λ n. absurd (∥∥₁_elim filled.exact (λ x y. absurd x) (λ f. n ((f A i j a l h (λ e. omega arith)).sound c b))))
            (decided_derives G filled.chart.tokens.now law (nodes_of G.nonterminals (j - i) - A) A i j c a l (omega arith));
        whole = λ c d. ∥∥₁_elim filled.exact (Coded-set coded_ℕ _ _) (λ f. (f A i j a l h (λ e. omega arith)).whole c d);
      }

  pub known : (s : Symbol) (t : Stretch) → Below (grammar.model filled.chart.grammar.now) s → Within filled.chart.tokens.now t
      → inside filled.chart Known s t.from t.to
  known s t l h B e = exact B t.from t.to (subst (Below (grammar.model filled.chart.grammar.now)) e l) t.some h

  pub lone : (xs : List Item) (t : Stretch) → under filled.chart AllBelow xs
      → Within filled.chart.tokens.now t → inside filled.chart Lone xs t.from t.to
  lone xs t l h x e =
      known x.symbol t
      (subst (AllByRecursion (λ y. Below (grammar.model filled.chart.grammar.now) y.symbol)) e l).0 h

  pub inner : (t : Stretch) → Within filled.chart.tokens.now t → inside filled.chart Inner t.from t.to
  inner t h B k m b p l q r = exact B k m b l (omega arith)

  pub upper : (a : ℕ) (t : Stretch) → Within filled.chart.tokens.now t → inside filled.chart Upper a t.from t.to
  upper a t h B l b = exact B t.from t.to b t.some h
