use Rattle.columns.specs.Mask.{Means}
use Rattle.chart.proofs.Rules.{Rules}
use Rattle.chart.proofs.chart.Chart.cell.Given as goal

abbrev pub invariant-loop-number : goal.invariant-loop-number
invariant-loop-number g l =
    Means l.all.bits (Rules (g.G.Grammar.model l.self.grammar.now) l.self.tokens.now l.a l.s.from l.s.to l.number)
