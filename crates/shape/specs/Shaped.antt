-- Trees over neighbouring pieces, by node records in preorder.
--   Shaped   these nodes and so many pieces are what these children cover, in the order of the text
--   Passes   from these children on, a walk in the order of the text comes to these nodes and so many pieces,
--            and the next child is a node, with those children behind it
use Rattle.std.specs.Prelude.{ℕ, suc, List, [], ◌∷◌, ◌++◌}
use Rattle.grammar.specs.declared.rule.Child.{Child}
use Rattle.grammar.specs.declared.rule.Child.TheVariants.{Piece, Node}
use Rattle.tree.specs.declared.node.Node.{Node as NodeRecord}
use Rattle.shape.specs.Children.{under}

pub data Shaped : List Child → List NodeRecord → ℕ → Type 0 where
  none : Shaped [] [] 0
  piece : {cs : List Child} {ns : List NodeRecord} {p : ℕ} → Shaped cs ns p → Shaped (Piece ∷ cs) ns (suc p)
  node : {cs : List Child} {n : NodeRecord} {ns : List NodeRecord} {p : ℕ} → Shaped (under n ++ cs) ns p → Shaped (Node ∷ cs) (n ∷ ns) p

pub data Passes : List Child → List NodeRecord → ℕ → List Child → Type 0 where
  here : {cs : List Child} → Passes (Node ∷ cs) [] 0 cs
  piece : {cs ds : List Child} {ns : List NodeRecord} {p : ℕ} → Passes cs ns p ds → Passes (Piece ∷ cs) ns (suc p) ds
  node : {cs ds : List Child} {n : NodeRecord} {ns : List NodeRecord} {p : ℕ} → Passes (under n ++ cs) ns p ds
      → Passes (Node ∷ cs) (n ∷ ns) p ds

-- one node with all that is below it
abbrev pub tree : List Child
tree = Node ∷ []
