use Rattle.std.proofs.Common.{refl}
use Rattle.chart.proofs.Cuts.{one_means}
use Rattle.chart.proofs.item_row.ItemItemRow.columns.Goals as goal

pub part-requires-clause-known : goal.part-requires-clause-known
part-requires-clause-known g c = c.requires.lone c.args.self refl

pub returns : goal.returns
returns g c =
    one_means (g.G.Grammar.model c.args.chart.now.grammar.now) c.args.chart.now.tokens.now c.part.result.bits c.node_columns.result.bits
    c.args.self c.args.s.from c.args.s.to c.part.ensures c.node_columns.ensures
