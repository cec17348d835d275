use Rattle.chart.specs.Chart.{Same, inside}
use Rattle.chart.proofs.Fills.{Stretch}
use Rattle.chart.proofs.chart.Chart.fill_stretch.Given as goal

abbrev pub invariant-loop-a : goal.invariant-loop-a
invariant-loop-a g l = record { stretch : inside l.self Stretch l.a l.s.from l.s.to; same : Same l.fn.self l.self }
