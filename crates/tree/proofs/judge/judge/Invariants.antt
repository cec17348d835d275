use Rattle.std.proofs.Common.{◌≡◌, ◌+◌, length}
use Rattle.tree.specs.Forest.{Tree}
use Rattle.tree.specs.Terminals.{listed}
use Rattle.tree.specs.Walks.{Ahead, rules_left, rules_of, terminals_left}
use Rattle.tree.proofs.judge.judge.Given as goal

abbrev pub invariant-loop : goal.invariant-loop
invariant-loop g l =
    (l.walk.grammar.now ≡ l.grammar)
    × (Ahead (g.G.Grammar.model l.grammar) l.walk 0
    → Tree (g.G.Grammar.model l.grammar) (rules_of l.nodes) (listed l.terminals))
    × (Tree (g.G.Grammar.model l.grammar) (rules_of l.nodes) (listed l.terminals)
    → Ahead (g.G.Grammar.model l.grammar) l.walk 0)

abbrev pub decreases-loop : goal.decreases-loop
decreases-loop g l = length (rules_left l.walk) + length (terminals_left l.walk)
