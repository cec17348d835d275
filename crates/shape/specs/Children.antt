-- What node records tell of a tree without a grammar.
--   children        what the items of a node cover, in order
--   kids, leaves    how many of them are nodes, and how many are pieces
--   pieces_in       how many pieces stand directly under these nodes
--   closes          these nodes, in preorder, are just so many trees
--   one_tree        they are one tree, or there are none
use Rattle.std.specs.Prelude.{ℕ, zero, suc, ◌+◌, Bool, true, false, List, [], ◌∷◌}
use Rattle.grammar.specs.declared.rule.Child.{Child}
use Rattle.grammar.specs.declared.rule.Child.TheVariants.{Piece, Node}
use Rattle.grammar.specs.Model.{Shape}
use Rattle.grammar.specs.Several.{listed}
use Rattle.tree.specs.declared.node.Node.{Node as NodeRecord}

abbrev pub children : Shape → List Child
children = listed

abbrev pub kids : List Child → ℕ
kids [] = 0
kids (Piece ∷ cs) = kids cs
kids (Node ∷ cs) = suc (kids cs)

abbrev pub leaves : List Child → ℕ
leaves [] = 0
leaves (Piece ∷ cs) = suc (leaves cs)
leaves (Node ∷ cs) = leaves cs

-- what a node covers
abbrev pub under : NodeRecord → List Child
under n = children n.shape

abbrev pub pieces_in : List NodeRecord → ℕ
pieces_in [] = 0
pieces_in (n ∷ ns) = leaves (under n) + pieces_in ns

abbrev pub closes : ℕ → List NodeRecord → Bool
closes zero [] = true
closes (suc k) [] = false
closes zero (n ∷ ns) = false
closes (suc k) (n ∷ ns) = closes (kids (under n) + k) ns

abbrev pub one_tree : List NodeRecord → Bool
one_tree [] = true
one_tree (n ∷ ns) = closes (kids (under n)) ns
