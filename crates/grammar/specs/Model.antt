-- What a grammar means.
--   Terminal      a class of pieces, or a word by its spelling
--   Model         how many nonterminals there are, the terminals and the rules, each in the order of their numbers
--   Items         the items of a rule, one to three
--   Shape         what the items of a node cover, in order
--   child_of      what an item covers in a tree: a terminal one piece, a nonterminal a node
--   shape_of      what the items of a rule cover
--   first_with    the number of the first terminal that passes a test
--   spelled       a test of a terminal: it is the word with these bytes
--   classed       a test of a terminal: it is that class
--   or_else       the first of two answers that is there
--   terminal_of   the terminal of a piece: the word spelled like it, else its class, else none
use Rattle.std.specs.Prelude.{ℕ, suc, Bool, true, false, cond, List, [], ◌∷◌, Some, None, Option}
use Rattle.std.specs.Str.{bytes_eq}
use Rattle.pieces.specs.declared.piece.Class.{Class}
use Rattle.pieces.specs.declared.piece.Class.TheVariants.{Name, Number, Quote, Sign}
use Rattle.pieces.specs.Kinds.{class_of}
use Rattle.grammar.specs.declared.rule.Symbol.{Symbol}
use Rattle.grammar.specs.declared.rule.Symbol.TheVariants as symbol
use Rattle.grammar.specs.declared.rule.Item.{Item}
use Rattle.grammar.specs.declared.rule.Rule.{Rule}
use Rattle.grammar.specs.declared.rule.Child.{Child}
use Rattle.grammar.specs.declared.several.Several.{Several}
use Rattle.grammar.specs.Several.{mapped}
use Rattle.grammar.specs.declared.rule.Child.TheVariants.{Piece, Node}

pub data Terminal : Type 0 where
  class : Class → Terminal
  word : List ℕ → Terminal

pub record Model : Type 0 where
  pub nonterminals : ℕ
  pub terminals : List Terminal
  pub rules : List Rule

abbrev pub Items : Type 0
Items = Several Item

abbrev pub Shape : Type 0
Shape = Several Child

abbrev pub child_of : Symbol → Child
child_of (symbol.Terminal t) = Piece
child_of (symbol.Nonterminal a) = Node

abbrev pub shape_of : Items → Shape
shape_of = mapped (λ x. child_of x.symbol)

-- one number further on
abbrev pub later : Option ℕ → Option ℕ
later None = None
later (Some k) = Some (suc k)

abbrev pub first_with : (Terminal → Bool) → List Terminal → Option ℕ
first_with test [] = None
first_with test (t ∷ ts) = cond (test t) (Some 0) (later (first_with test ts))

abbrev pub same_class : Class → Class → Bool
same_class Name d = elim d [ Name ↦ true | Number ↦ false | Quote ↦ false | Sign ↦ false ]
same_class Number d = elim d [ Name ↦ false | Number ↦ true | Quote ↦ false | Sign ↦ false ]
same_class Quote d = elim d [ Name ↦ false | Number ↦ false | Quote ↦ true | Sign ↦ false ]
same_class Sign d = elim d [ Name ↦ false | Number ↦ false | Quote ↦ false | Sign ↦ true ]

abbrev pub spelled : List ℕ → Terminal → Bool
spelled bs (class c) = false
spelled bs (word w) = bytes_eq w bs

abbrev pub classed : Option Class → Terminal → Bool
classed None t = false
classed (Some c) (class d) = same_class d c
classed (Some c) (word w) = false

abbrev pub or_else : {X : Type 0} → Option X → Option X → Option X
or_else None y = y
or_else (Some x) y = Some x

abbrev pub terminal_of : Model → List ℕ → Option ℕ
terminal_of G bs = or_else (first_with (spelled bs) G.terminals) (first_with (classed (class_of bs)) G.terminals)
