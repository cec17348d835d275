-- Where a row of items can be cut: a terminal covers one piece, and every item some piece.
--   first_begin   the first place where an item that goes up to j can begin behind another from i on
--   row_begin     the first place where a row of items that goes up to j can begin behind another item from i on
--   past_end      one past the last place where an item from i on can end before j
use Rattle.std.specs.Prelude.{ℕ, ◌+◌, ◌-◌, List, [], ◌∷◌, min, max}
use Rattle.grammar.specs.declared.rule.Symbol.{Symbol}
use Rattle.grammar.specs.declared.rule.Item.{Item}
use Rattle.grammar.specs.declared.rule.Symbol.TheVariants.{Terminal, Nonterminal}

abbrev pub first_begin : Symbol → ℕ → ℕ → ℕ
first_begin (Terminal a) i j = max (i + 1) (j - 1)
first_begin (Nonterminal b) i j = i + 1

abbrev pub row_begin : List Item → ℕ → ℕ → ℕ
row_begin [] i j = i + 1
row_begin (x ∷ []) i j = first_begin x.symbol i j
row_begin (x ∷ y ∷ xs) i j = i + 1

abbrev pub past_end : Symbol → ℕ → ℕ → ℕ
past_end (Terminal a) i j = min j (i + 2)
past_end (Nonterminal b) i j = j
