use Rattle.std.proofs.Common.{◌∷◌}
use Rattle.columns.specs.Mask.{Means}
use Rattle.chart.proofs.Cuts.{Cuts}
use Rattle.chart.proofs.item_row.Tuple2ItemItemRow.columns.Given as goal

abbrev pub invariant-loop-cut : goal.invariant-loop-cut
invariant-loop-cut g l =
    Means l.all.bits (Cuts (g.G.Grammar.model l.chart.grammar.now) l.chart.tokens.now l.x
    (g.R.ItemRow.first l.rest ∷ g.R.ItemRow.others l.rest) l.s.from l.s.to l.cut)
