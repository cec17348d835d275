use Rattle.std.proofs.Common.{ℕ, ◌<◌}
use Rattle.chart.specs.Readings.{ByRule}
use Rattle.chart.proofs.filled.FilledChart.lowest_rule.Given as goal

abbrev pub invariant-loop-number : goal.invariant-loop-number
invariant-loop-number g l =
    let G = g.G.Grammar.model l.self.chart.grammar.now in
    let s = l.next.stretch in
    (q : ℕ) → q < l.number → ByRule G l.self.chart.tokens.now q l.next.symbol s.from s.to l.next.column → ⊥
