use Rattle.chart.specs.Chart.{Done, Same, inside}
use Rattle.chart.proofs.chart.Chart.fill_end.Given as goal

abbrev pub invariant-loop-from : goal.invariant-loop-from
invariant-loop-from g l = record { done : inside l.self Done l.from l.to; same : Same l.fn.self l.self }
