-- Node records of a tree.
--   Tells   a node record tells the left symbol and the shape of its rule
--   Holds   node records are those of the tree, in preorder
use Rattle.std.specs.Prelude.{◌≡◌, List, map, Some}
use Rattle.std.specs.List.{slice_get, AllByRecursion}
use Rattle.grammar.specs.declared.rule.Rule.{Rule}
use Rattle.grammar.specs.Model.{Model, shape_of}
use Rattle.tree.specs.declared.node.Node.{Node}
use Rattle.chart.specs.Trees.{Tree, preorder}

pub record Tells (G : Model) (n : Node) : Type 0 where
  pub rule : Rule
  pub is : slice_get G.rules n.rule ≡ Some rule
  pub left : n.left ≡ rule.left
  pub shape : n.shape ≡ shape_of rule.items

pub record Holds (G : Model) (ns : List Node) (t : Tree) : Type 0 where
  pub numbers : map (λ n. n.rule) ns ≡ preorder t
  pub told : AllByRecursion (Tells G) ns
