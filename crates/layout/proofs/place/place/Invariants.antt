use Rattle.std.proofs.Common.{◌≡◌, ◌+◌, ◌≤◌, length}
use Rattle.tree.specs.Walks.{Ahead, rules_left, rules_of, terminals_left}
use Rattle.layout.specs.Layouts.{lengths}
use Rattle.layout.proofs.Laying.{SoFar}
use Rattle.layout.proofs.place.place.Given as goal

abbrev pub invariant-loop-step : goal.invariant-loop-step
invariant-loop-step g l =
    (l.walk.grammar.now ≡ l.grammar)
    × (l.walk.terminals.now ≡ l.terminals)
    × (length l.placer.list.items ≡ l.walk.piece)
    × (l.walk.piece ≤ length l.contents.pieces.now)
    × Ahead (g.G.Grammar.model l.grammar) l.walk l.column
    × SoFar (g.G.Grammar.model l.grammar) (g.P.Policy.answers l.policy) (rules_of l.contents.nodes.now)
    (lengths l.contents.pieces.now) l.walk l.column l.placer

abbrev pub decreases-loop-step : goal.decreases-loop-step
decreases-loop-step g l = length (rules_left l.walk) + length (terminals_left l.walk)
