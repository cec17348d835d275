-- The memory of a chart over tokens.
--   Board     at most 128 tokens, and room for a number for each nonterminal and stretch of them
use Rattle.std.specs.Prelude.{ℕ, ◌+◌, ◌*◌, ◌≤◌, List, length}
use Rattle.grammar.specs.Model.{Model}
use Rattle.text.specs.declared.token.Token.{Token}
use Rattle.chart.specs.Place.{tri}

pub record Board (G : Model) (ts : List Token) (cs : List ℕ) : Type 0 where
  pub few : length ts ≤ 128
  pub room : tri (length ts + 1) * G.nonterminals ≤ length cs
