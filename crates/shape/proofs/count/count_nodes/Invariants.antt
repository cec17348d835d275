use Rattle.std.proofs.Common.{◌≡◌, ℕ, ◌+◌, true, drop}
use Rattle.shape.specs.Children.{closes}
use Rattle.shape.specs.Counted.{span}
use Rattle.shape.proofs.count.count_nodes.Given as goal

abbrev pub invariant-loop-i : goal.invariant-loop-i
invariant-loop-i l =
    (span 1 l.nodes ≡ l.i + span l.owed (drop l.i l.nodes))
    × ((k : ℕ) × (closes (l.owed + k) (drop l.i l.nodes) ≡ true))
