-- The law of grammars.
--   Below        a symbol's number is below its count
--   Higher       a symbol, if a nonterminal, has a higher number than the left one
--   Ordered      a rule's only item, if a nonterminal, has a higher number than the left one
--   every        all bytes pass a test
--   one_name     bytes that form one name: a letter, then what a name runs on through
--   one_sign     bytes that form one sign
--   WellFormed   a terminal is the class name, number or quote, or a word: one name or one sign of 1 to 12 bytes
--   Proper       a rule has a left symbol and items of the grammar, and is ordered
--   Lawful       limits on the counts, no class and no spelling twice, every terminal well formed and every rule proper
use Rattle.std.specs.Prelude.{◌≡◌, ℕ, ◌<◌, ◌≤◌, Bool, true, false, ◌&&◌, ◌||◌, List, [], ◌∷◌, length, Some}
use Rattle.std.specs.List.{slice_get, AllByRecursion}
use Rattle.pieces.specs.declared.piece.Class.TheVariants.{Name, Number, Quote, Sign}
use Rattle.pieces.specs.Kinds.{letter, sign, goes_on}
use Rattle.grammar.specs.declared.rule.Symbol.{Symbol}
use Rattle.grammar.specs.declared.rule.Symbol.TheVariants as symbol
use Rattle.grammar.specs.declared.several.Several.TheVariants.{One, Two, Three}
use Rattle.grammar.specs.declared.rule.Rule.{Rule}
use Rattle.grammar.specs.Model.{Model, Items, Terminal, class, word}
use Rattle.grammar.specs.Several.{listed}

abbrev pub Below : Model → Symbol → Type 0
Below G (symbol.Terminal t) = t < length G.terminals
Below G (symbol.Nonterminal a) = a < G.nonterminals

abbrev pub Higher : ℕ → Symbol → Type 0
Higher left (symbol.Terminal t) = Unit {0}
Higher left (symbol.Nonterminal a) = left < a

abbrev pub Ordered : ℕ → Items → Type 0
Ordered left (One x) = Higher left x.symbol
Ordered left (Two x y) = Unit {0}
Ordered left (Three x y z) = Unit {0}

abbrev pub every : (ℕ → Bool) → List ℕ → Bool
every test [] = true
every test (b ∷ bs) = test b && every test bs

abbrev pub one_name : List ℕ → Bool
one_name [] = false
one_name (b ∷ bs) = letter b && every goes_on bs

abbrev pub one_sign : List ℕ → Bool
one_sign [] = false
one_sign (b ∷ []) = sign b
one_sign (b ∷ c ∷ bs) = false

abbrev pub WellFormed : Terminal → Type 0
WellFormed (class Name) = Unit {0}
WellFormed (class Number) = Unit {0}
WellFormed (class Quote) = Unit {0}
WellFormed (class Sign) = ⊥
WellFormed (word w) = (length w ≤ 12) × ((one_name w || one_sign w) ≡ true)

pub record Proper (G : Model) (rule : Rule) : Type 0 where
  pub left : rule.left < G.nonterminals
  pub below : AllByRecursion (λ x. Below G x.symbol) (listed rule.items)
  pub ordered : Ordered rule.left rule.items

pub record Lawful (G : Model) : Type 0 where
  pub nonterminals : (1 ≤ G.nonterminals) × (G.nonterminals ≤ 16)
  pub terminals : (1 ≤ length G.terminals) × (length G.terminals ≤ 32)
  pub rules : (1 ≤ length G.rules) × (length G.rules ≤ 64)
  pub once : (j k : ℕ) (t : Terminal) → slice_get G.terminals j ≡ Some t → slice_get G.terminals k ≡ Some t → j ≡ k
  pub spelling : (k : ℕ) (t : Terminal) → slice_get G.terminals k ≡ Some t → WellFormed t
  pub proper : (r : ℕ) (rule : Rule) → slice_get G.rules r ≡ Some rule → Proper G rule
