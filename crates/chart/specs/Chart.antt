-- A chart over the tokens of a text.
--   Within    the stretch ends among the tokens
--   Exact     the number for A and the stretch from i up to j holds just the columns of trees with A on top there
--   Inner     exact are the numbers of all shorter stretches within i up to j
--   Upper     exact are the numbers for i up to j of the nonterminals above a
--   Done      exact are the numbers of the stretches that end before j, and of those that end at j and begin at i or later
--   Known     if the symbol is a nonterminal, its number for i up to j is exact
--   AllBelow  the symbols of all items are those of the grammar
--   Lone      if an item stands alone, and is a nonterminal, its number for i up to j is exact
--   under     what is said of a grammar and tokens, of a chart in memory; inside also of its numbers
--   Filled    all its numbers are exact
--   Same      two charts in memory are of one grammar and the same tokens
use Rattle.std.specs.Prelude.{◌≡◌, ℕ, ◌-◌, ◌<◌, ◌≤◌, List, [], ◌∷◌, length, slice_index}
use Rattle.std.specs.List.{AllByRecursion}
use Rattle.columns.specs.Mask.{Means}
use Rattle.grammar.specs.declared.rule.Symbol.{Symbol}
use Rattle.grammar.specs.declared.rule.Item.{Item}
use Rattle.grammar.specs.declared.rule.Symbol.TheVariants.{Nonterminal}
use Rattle.grammar.specs.declared.grammar.Grammar.{Ghosts}
use Rattle.grammar.specs.Model.{Model}
use Rattle.grammar.specs.Lawful.{Below}
use Rattle.text.specs.declared.token.Token.{Token}
use Rattle.chart.specs.declared.chart.Chart.{Chart}
use Rattle.chart.specs.declared.stretch.Stretch.{Stretch}
use Rattle.chart.specs.Place.{cell_place}
use Rattle.chart.specs.Readings.{Derives}

abbrev pub Within : List Token → Stretch → Type 0
Within ts s = s.to ≤ length ts

unfoldable pub Exact : Model → List Token → List ℕ → ℕ → ℕ → ℕ → Type 0
Exact G ts cs A i j = Means (slice_index cs (cell_place G.nonterminals A i j)) (Derives G ts A i j)

abbrev pub Inner : Model → List Token → List ℕ → ℕ → ℕ → Type 0
Inner G ts cs i j = (B k m : ℕ) → B < G.nonterminals → i ≤ k → k < m → m ≤ j → m - k < j - i → Exact G ts cs B k m

abbrev pub Upper : Model → List Token → List ℕ → ℕ → ℕ → ℕ → Type 0
Upper G ts cs a i j = (B : ℕ) → a < B → B < G.nonterminals → Exact G ts cs B i j

abbrev pub Done : Model → List Token → List ℕ → ℕ → ℕ → Type 0
Done G ts cs i j = (B k m : ℕ) → B < G.nonterminals → k < m → m ≤ j → (m ≡ j → i ≤ k) → Exact G ts cs B k m

abbrev pub Known : Model → List Token → List ℕ → Symbol → ℕ → ℕ → Type 0
Known G ts cs s i j = (B : ℕ) → s ≡ Nonterminal B → Exact G ts cs B i j

abbrev pub AllBelow : Model → List Token → List Item → Type 0
AllBelow G ts xs = AllByRecursion (λ x. Below G x.symbol) xs

abbrev pub Lone : Model → List Token → List ℕ → List Item → ℕ → ℕ → Type 0
Lone G ts cs xs i j = (x : Item) → xs ≡ x ∷ [] → Known G ts cs x.symbol i j

-- ---- of a chart in memory, whose grammar has a model

module _ {X : Type 0} {grammar : Ghosts X} where
  abbrev pub under : {Y : Type 1} → Chart X grammar → (Model → List Token → Y) → Y
  under c F = F (grammar.model c.grammar.now) c.tokens.now

  abbrev pub inside : {Y : Type 1} → Chart X grammar → (Model → List Token → List ℕ → Y) → Y
  inside c F = under c F c.cells.now

  abbrev pub Filled : Chart X grammar → Type 0
  Filled c = inside c Done 0 (length c.tokens.now)

  abbrev pub Same : Chart X grammar → Chart X grammar → Type 0
  Same c d = (d.grammar.now ≡ c.grammar.now) × (d.tokens.now ≡ c.tokens.now)
