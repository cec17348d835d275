use Rattle.std.proofs.Common.{◌≡◌, List, ◌++◌}
use Rattle.std.specs.Slice.Iter.{iter_rest}
use Rattle.tree.specs.declared.node.Node.{Node}
use Rattle.shape.specs.Counted.{path}
use Rattle.shape.proofs.count.count_path.Given as goal

abbrev pub invariant-loop-node : goal.invariant-loop-node
invariant-loop-node l = (seen : List Node) × (l.nodes ≡ iter_rest l.node-iterator.iter ++ seen) × (l.so_far ≡ path seen)
