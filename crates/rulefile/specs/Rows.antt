-- A line of a rule file as it is read, and the rule that it becomes.
--   Called        a symbol by what the file calls it: a nonterminal by its name, or a terminal
--   Written       an item: a called symbol, a relation and a mark
--   Entries       one to three items
--   Line          a left nonterminal by its name, and its items
--   names_in      the nonterminals of a line, from left to the last item; terminals_in, its terminals
--   rule_by       the rule of a line, where names and terminals have their numbers from these lists
use Rattle.std.specs.Prelude.{ℕ, Bool, List, [], ◌∷◌, ◌++◌, map}
use Rattle.columns.specs.declared.relation.Relation.{Relation}
use Rattle.grammar.specs.declared.rule.Symbol.{Symbol}
use Rattle.grammar.specs.declared.rule.Symbol.TheVariants as symbol
use Rattle.grammar.specs.declared.rule.Item.{Item}
use Rattle.grammar.specs.Model.{Items}
use Rattle.grammar.specs.declared.several.Several.{Several}
use Rattle.grammar.specs.Several.{listed, mapped}
use Rattle.grammar.specs.declared.rule.Rule.{Rule}
use Rattle.grammar.specs.Model.{Terminal}
use Rattle.rulefile.specs.Denoted.{alike}
use Rattle.rulefile.specs.Places.{place, same_name}

pub data Called : Type 0 where
  nonterminal : List ℕ → Called
  terminal : Terminal → Called

pub record Written : Type 0 where
  pub symbol : Called
  pub relation : Relation
  pub mark : Bool

abbrev pub Entries : Type 0
Entries = Several Written

pub record Line : Type 0 where
  pub left : List ℕ
  pub items : Entries

abbrev pub name_of : Called → List (List ℕ)
name_of (nonterminal w) = w ∷ []
name_of (terminal t) = []

abbrev pub terminal_of : Called → List Terminal
terminal_of (nonterminal w) = []
terminal_of (terminal t) = t ∷ []

abbrev pub symbols : Entries → List Called
symbols xs = map (λ x. x.symbol) (listed xs)

abbrev pub names_among : List Called → List (List ℕ)
names_among [] = []
names_among (s ∷ ss) = name_of s ++ names_among ss

abbrev pub terminals_among : List Called → List Terminal
terminals_among [] = []
terminals_among (s ∷ ss) = terminal_of s ++ terminals_among ss

abbrev pub names_in : Line → List (List ℕ)
names_in l = l.left ∷ names_among (symbols l.items)

abbrev pub terminals_in : Line → List Terminal
terminals_in l = terminals_among (symbols l.items)

abbrev pub symbol_by : List (List ℕ) → List Terminal → Called → Symbol
symbol_by names terminals (nonterminal w) = symbol.Nonterminal (place (same_name w) names)
symbol_by names terminals (terminal t) = symbol.Terminal (place (alike t) terminals)

abbrev pub item_by : List (List ℕ) → List Terminal → Written → Item
item_by names terminals x = record { symbol = symbol_by names terminals x.symbol; relation = x.relation; mark = x.mark }

abbrev pub items_by : List (List ℕ) → List Terminal → Entries → Items
items_by names terminals = mapped (item_by names terminals)

abbrev pub rule_by : List (List ℕ) → List Terminal → Line → Rule
rule_by names terminals l = record { left = place (same_name l.left) names; items = items_by names terminals l.items }
