-- The block language, a rule a line. An item is written with its relation, and with ! where its mark is on.
--   Script to Args   the nonterminals, by number
--   name to colon    the terminals, by number
--   node=, piece=    an item with a nonterminal or a terminal at the node's column, and so for the other relations
--   one, two, three  a rule with as many items
--   block            the language: 7 nonterminals, 7 terminals and 17 rules
use Rattle.std.specs.Prelude.{ℕ, true, false, List, [], ◌∷◌, codes}
use Rattle.columns.specs.declared.relation.Relation.TheVariants.{Equal, Above, AtLeast}
use Rattle.pieces.specs.declared.piece.Class.TheVariants.{Name, Number, Quote}
use Rattle.grammar.specs.declared.rule.Symbol.TheVariants as symbol
use Rattle.grammar.specs.declared.rule.Item.{Item}
use Rattle.grammar.specs.declared.several.Several.TheVariants.{One, Two, Three}
use Rattle.grammar.specs.declared.rule.Rule.{Rule}
use Rattle.grammar.specs.Model.{Model, Terminal, class, word}

abbrev pub Script : ℕ
Script = 0

abbrev pub Block : ℕ
Block = 1

abbrev pub Stmt : ℕ
Stmt = 2

abbrev pub Head : ℕ
Head = 3

abbrev pub Else : ℕ
Else = 4

abbrev pub Line : ℕ
Line = 5

abbrev pub Args : ℕ
Args = 6

abbrev pub terminals : List Terminal
terminals = class Name ∷ class Number ∷ class Quote ∷ word (codes "if") ∷ word (codes "loop") ∷ word (codes "else") ∷ word (codes ":") ∷ []

abbrev pub name : ℕ
name = 0

abbrev pub number : ℕ
number = 1

abbrev pub quote : ℕ
quote = 2

abbrev pub if : ℕ
if = 3

abbrev pub loop : ℕ
loop = 4

abbrev pub else : ℕ
else = 5

abbrev pub colon : ℕ
colon = 6

abbrev pub node= : ℕ → Item
node= a = record { symbol = symbol.Nonterminal a; relation = Equal; mark = false }

abbrev pub node> : ℕ → Item
node> a = record { symbol = symbol.Nonterminal a; relation = Above; mark = false }

abbrev pub node>! : ℕ → Item
node>! a = record { symbol = symbol.Nonterminal a; relation = Above; mark = true }

abbrev pub piece= : ℕ → Item
piece= t = record { symbol = symbol.Terminal t; relation = Equal; mark = false }

abbrev pub piece> : ℕ → Item
piece> t = record { symbol = symbol.Terminal t; relation = Above; mark = false }

abbrev pub piece>= : ℕ → Item
piece>= t = record { symbol = symbol.Terminal t; relation = AtLeast; mark = false }

abbrev pub one : ℕ → Item → Rule
one a x = record { left = a; items = One x }

abbrev pub two : ℕ → Item → Item → Rule
two a x y = record { left = a; items = Two x y }

abbrev pub three : ℕ → Item → Item → Item → Rule
three a x y z = record { left = a; items = Three x y z }

abbrev pub rules : List Rule
rules =
    one Script (node= Block) ∷
    one Block (node= Stmt) ∷
    two Block (node= Stmt) (node= Block) ∷
    one Stmt (node= Line) ∷
    two Stmt (node= Head) (node>! Block) ∷
    three Stmt (node= Head) (node>! Block) (node= Else) ∷
    three Else (piece= else) (piece> colon) (node>! Block) ∷
    three Head (piece= if) (node> Args) (piece> colon) ∷
    three Head (piece= loop) (node> Args) (piece> colon) ∷
    one Line (piece= name) ∷
    two Line (piece= name) (node> Args) ∷
    one Args (piece>= name) ∷
    one Args (piece>= number) ∷
    one Args (piece>= quote) ∷
    two Args (piece>= name) (node= Args) ∷
    two Args (piece>= number) (node= Args) ∷
    two Args (piece>= quote) (node= Args) ∷
    []

abbrev pub block : Model
block = record { nonterminals = 7; terminals = terminals; rules = rules }
