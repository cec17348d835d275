-- Nodes of the first reading that wait to be written, the next one first.
--   waiting   what is on the stack, the last one in first
--   Due       a tree can be completed there
--   covered   how many tokens they cover
--   rooms     how many nodes their trees have at most
--   Writes    these are the nodes of the first tree there
--   Rest      these are the nodes of all that wait, one tree after another
--   Awaits    what waits for one item of a node at column c over the tokens from i up to j: nothing for a terminal
--   Divided   what waits for a row of items that divide the tokens from i up to j
--   Adds      what is added on top of what waited
--   Entered   the node is written, and these wait in its place
--   Wrote     the nodes of the first tree stand in front, and behind them all is as it was
use Rattle.std.specs.Prelude.{◌≡◌, ℕ, ◌+◌, ◌-◌, ◌<◌, ◌≤◌, List, [], ◌∷◌, ◌++◌, length, drop, reverse}
use Rattle.std.specs.List.{AllByRecursion}
use Rattle.arrayvec.specs.ArrayVec.{ArrayVec}
use Rattle.grammar.specs.declared.rule.Symbol.{Symbol}
use Rattle.grammar.specs.declared.rule.Symbol.TheVariants.{Terminal, Nonterminal}
use Rattle.grammar.specs.declared.rule.Item.{Item}
use Rattle.grammar.specs.Model.{Model}
use Rattle.text.specs.declared.token.Token.{Token}
use Rattle.tree.specs.declared.node.Node.{Node}
use Rattle.chart.specs.declared.waiting.Waiting.{Waiting}
use Rattle.chart.specs.Place.{nodes_of}
use Rattle.chart.specs.Trees.{Tree}
use Rattle.chart.specs.Readings.{Derives}
use Rattle.chart.specs.First.{First, Shortest, Least}
use Rattle.chart.specs.Chart.{Within}
use Rattle.chart.specs.Nodes.{Holds}

abbrev pub waiting : ArrayVec Waiting → List Waiting
waiting stack = reverse stack.items

pub record Due (G : Model) (ts : List Token) (w : Waiting) : Type 0 where
  pub low : w.symbol < G.nonterminals
  pub within : Within ts w.stretch
  pub some : Derives G ts w.symbol w.stretch.from w.stretch.to w.column

abbrev pub covered : List Waiting → ℕ
covered [] = 0
covered (w ∷ ws) = (w.stretch.to - w.stretch.from) + covered ws

abbrev pub rooms : ℕ → List Waiting → ℕ
rooms n [] = 0
rooms n (w ∷ ws) = (nodes_of n (w.stretch.to - w.stretch.from) - w.symbol) + rooms n ws

abbrev pub Writes : Model → List Token → Waiting → List Node → Type 0
Writes G ts w ns = (t : Tree) × First G ts t w.symbol w.stretch.from w.stretch.to w.column × Holds G ns t

abbrev pub Rest : Model → List Token → List Waiting → List Node → Type 0
Rest G ts [] ns = ns ≡ []
Rest G ts (w ∷ ws) ns = (us : List Node) × (vs : List Node) × (ns ≡ us ++ vs) × Writes G ts w us × Rest G ts ws vs

abbrev pub Awaits : Model → List Token → Item → Symbol → ℕ → ℕ → ℕ → List Waiting → Type 0
Awaits G ts x (Terminal a) c i j ws = ws ≡ []
Awaits G ts x (Nonterminal b) c i j ws =
    (w : Waiting) × (ws ≡ w ∷ []) × (w.symbol ≡ b) × (w.stretch.from ≡ i) × (w.stretch.to ≡ j) × Least G ts x i j c w.column

abbrev pub Divided : Model → List Token → List Item → ℕ → ℕ → ℕ → List Waiting → Type 0
Divided G ts [] c i j ws = (i ≡ j) × (ws ≡ [])
Divided G ts (x ∷ xs) c i j ws =
    (k : ℕ) × (us : List Waiting) × (vs : List Waiting) × (ws ≡ us ++ vs) × Shortest G ts x xs i j c k
    × Awaits G ts x x.symbol c i k us × Divided G ts xs c k j vs

abbrev pub Adds : List Waiting → List Waiting → (List Waiting → Type 0) → Type 0
Adds old new P = (ws : List Waiting) × (new ≡ ws ++ old) × P ws

pub record Entered (G : Model) (ts : List Token) (w : Waiting) (n : Node) (ws : List Waiting) : Type 0 where
  pub due : AllByRecursion (Due G ts) ws
  pub short : covered ws ≤ w.stretch.to - w.stretch.from
  pub room : rooms G.nonterminals ws < rooms G.nonterminals (w ∷ [])
  pub writes : (ns : List Node) → Rest G ts ws ns → Writes G ts w (n ∷ ns)

abbrev pub Wrote : Model → List Token → Waiting → List Node → List Node → ℕ → Type 0
Wrote G ts w old new count = (ns : List Node) × Writes G ts w ns × (count ≡ length ns) × (new ≡ ns ++ drop count old)
