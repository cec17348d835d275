-- What is told of a node of a tree.
--   Told        the facts of the node of that number: its rule and left symbol, the pieces before it in the text,
--               and the nodes and pieces that are the tree from it on
--   Tells       the facts, or none past the end
--   ToldOnce    of a node there is just one such answer
use Rattle.std.specs.Prelude.{◌≡◌, ℕ, ◌+◌, ◌≤◌, List, length, take, drop, Some, None, Option}
use Rattle.std.specs.List.{slice_get}
use Rattle.grammar.specs.declared.rule.Child.{Child}
use Rattle.tree.specs.declared.node.Node.{Node}
use Rattle.shape.specs.declared.facts.NodeFacts.{NodeFacts}
use Rattle.shape.specs.Shaped.{Shaped, Passes, tree}

pub record Told (ns : List Node) (k : ℕ) (f : NodeFacts) : Type 0 where
  pub node : Node
  pub is : slice_get ns k ≡ Some node
  pub rule : f.rule ≡ node.rule
  pub left : f.left ≡ node.left
  pub behind : List Child
  pub before : Passes tree (take k ns) f.first_piece behind
  pub within : k + f.node_count ≤ length ns
  pub covers : Shaped tree (take f.node_count (drop k ns)) f.piece_count

abbrev pub Tells : List Node → ℕ → Option NodeFacts → Type 0
Tells ns k None = length ns ≤ k
Tells ns k (Some f) = Told ns k f

abbrev pub ToldOnce : Type 0
ToldOnce = (ns : List Node) (k : ℕ) (a b : Option NodeFacts) → Tells ns k a → Tells ns k b → a ≡ b
