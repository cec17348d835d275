use Rattle.chart.specs.Waits.{waiting}
use Rattle.chart.proofs.Walks.{Walking}
use Rattle.chart.proofs.filled.FilledChart.walk.Given as goal

abbrev pub invariant-loop-count : goal.invariant-loop-count
invariant-loop-count g l =
    Walking (g.G.Grammar.model l.self.chart.grammar.now) l.self.chart.tokens.now l.fn.top l.fn.nodes (waiting l.stack) l.count l.nodes
