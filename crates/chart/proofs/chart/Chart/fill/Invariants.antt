use Rattle.std.proofs.Common.{◌-◌}
use Rattle.chart.specs.Chart.{Done, Same, inside}
use Rattle.chart.proofs.chart.Chart.fill.Given as goal

abbrev pub invariant-loop-to : goal.invariant-loop-to
invariant-loop-to g l = record { done : inside l.self Done 0 (l.to - 1); same : Same l.fn.self l.self }
