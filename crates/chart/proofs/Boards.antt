-- Every number of a chart stands in its memory.
use Rattle.std.proofs.Common.{ℕ, ◌<◌, ◌≤◌, List, length, arith}
use Rattle.grammar.specs.Model.{Model}
use Rattle.text.specs.declared.token.Token.{Token}
use Rattle.chart.specs.Place.{cell_place}
use Rattle.chart.specs.Board.{Board}
use Rattle.chart.proofs.Places.{place_lt}

module _ (G : Model) (ts : List Token) where
  pub in_chart : (cs : List ℕ) (a i j : ℕ) → Board G ts cs → a < G.nonterminals → i < j → j ≤ length ts
      → cell_place G.nonterminals a i j < length cs
  in_chart cs a i j b h l w = omega (arith, place_lt G.nonterminals a i j (length ts) h l w, b.room)
