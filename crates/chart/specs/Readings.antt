-- Readings of tokens.
--   terminals, columns   of the tokens, in order
--   Reading              a tree over all tokens with A on top for which fitting columns exist
--   Derives              some tree with A on top over the tokens from i up to j fits with column c at its top
--   Part                 an item of that symbol can cover the tokens from i up to j at column d
--   Row                  items can divide the tokens from i up to j below a node at column c
--   ItemsOf              the answer to what the items of the rule of that number are, if its left symbol is A
--   ByRule               the rule of that number can stand at a node with A over the tokens from i up to j at column c
use Rattle.std.specs.Prelude.{◌≡◌, ℕ, suc, ◌+◌, ◌<◌, List, map, length, Some, None, Option, ◌≢◌}
use Rattle.std.specs.List.{slice_get}
use Rattle.grammar.specs.declared.rule.Symbol.{Symbol}
use Rattle.grammar.specs.declared.rule.Symbol.TheVariants.{Terminal, Nonterminal}
use Rattle.grammar.specs.declared.rule.Item.{Item}
use Rattle.grammar.specs.Model.{Items}
use Rattle.grammar.specs.declared.rule.Rule.{Rule}
use Rattle.grammar.specs.Model.{Model}
use Rattle.grammar.specs.Several.{listed}
use Rattle.text.specs.declared.token.Token.{Token}
use Rattle.chart.specs.Trees.{Tree, Children, width, widths, Covers, Divide}
use Rattle.chart.specs.Fits.{Fits, Under}

abbrev pub terminals : List Token → List ℕ
terminals ts = map (λ t. t.terminal) ts

abbrev pub columns : List Token → List ℕ
columns ts = map (λ t. t.column) ts

pub record Reading (G : Model) (ts : List Token) (A : ℕ) (t : Tree) : Type 0 where
  pub covers : Covers G (terminals ts) t A 0
  pub all : width t ≡ length ts
  pub fits : (c : ℕ) × Fits G (columns ts) t 0 c

unfoldable pub Derives : Model → List Token → ℕ → ℕ → ℕ → ℕ → Type 0
Derives G ts A i j c = (t : Tree) × (i + width t ≡ j) × Covers G (terminals ts) t A i × Fits G (columns ts) t i c

abbrev pub Part : Model → List Token → Symbol → ℕ → ℕ → ℕ → Type 0
Part G ts (Terminal a) i j d = (j ≡ suc i) × (slice_get (terminals ts) i ≡ Some a) × (slice_get (columns ts) i ≡ Some d) × (d < 64)
Part G ts (Nonterminal b) i j d = Derives G ts b i j d

unfoldable pub Row : Model → List Token → List Item → ℕ → ℕ → ℕ → Type 0
Row G ts xs i j c =
    (c < 64) × ((cs : Children) × (i + widths cs ≡ j) × Divide G (terminals ts) cs xs i × Under G (columns ts) cs xs i c)

abbrev pub ByRule : Model → List Token → ℕ → ℕ → ℕ → ℕ → ℕ → Type 0
ByRule G ts r A i j c = (rule : Rule) × (slice_get G.rules r ≡ Some rule) × (rule.left ≡ A) × Row G ts (listed rule.items) i j c

abbrev pub ItemsOf : Model → List Token → ℕ → ℕ → Option Items → Type 0
ItemsOf G ts A r None = (rule : Rule) → slice_get G.rules r ≡ Some rule → rule.left ≢ A
ItemsOf G ts A r (Some items) = slice_get G.rules r ≡ Some record { left = A; items = items }
