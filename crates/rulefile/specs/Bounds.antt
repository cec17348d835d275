-- Rules in the bounds of a grammar.
--   in_bounds   the left symbol and the items of a rule are below the counts of nonterminals and terminals
--   ordered     the only item of a rule, if it is a nonterminal, has a higher number than the left one
--   unordered   the line of the first rule that is not so; the first rule has that line
use Rattle.std.specs.Prelude.{ℕ, Bool, true, not, ◌&&◌, List, Option, nat_lt}
use Rattle.std.specs.List.{list_all, position_from}
use Rattle.grammar.specs.declared.rule.Symbol.{Symbol}
use Rattle.grammar.specs.declared.rule.Symbol.TheVariants as symbol
use Rattle.grammar.specs.Model.{Items}
use Rattle.grammar.specs.declared.several.Several.TheVariants.{One, Two, Three}
use Rattle.grammar.specs.declared.rule.Rule.{Rule}

abbrev pub below : ℕ → ℕ → Symbol → Bool
below n t (symbol.Terminal k) = nat_lt k t
below n t (symbol.Nonterminal a) = nat_lt a n

abbrev pub all_below : ℕ → ℕ → Items → Bool
all_below n t (One x) = below n t x.symbol
all_below n t (Two x y) = below n t x.symbol && below n t y.symbol
all_below n t (Three x y z) = below n t x.symbol && below n t y.symbol && below n t z.symbol

abbrev pub in_bounds : ℕ → ℕ → Rule → Bool
in_bounds n t r = nat_lt r.left n && all_below n t r.items

abbrev pub all_in_bounds : ℕ → ℕ → List Rule → Bool
all_in_bounds n t rs = list_all (in_bounds n t) rs

abbrev pub higher : ℕ → Symbol → Bool
higher left (symbol.Terminal k) = true
higher left (symbol.Nonterminal a) = nat_lt left a

abbrev pub items_ordered : ℕ → Items → Bool
items_ordered left (One x) = higher left x.symbol
items_ordered left (Two x y) = true
items_ordered left (Three x y z) = true

abbrev pub ordered : Rule → Bool
ordered r = items_ordered r.left r.items

abbrev pub unordered : ℕ → List Rule → Option ℕ
unordered n rs = position_from (λ r. not (ordered r)) n rs
