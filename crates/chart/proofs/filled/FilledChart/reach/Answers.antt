use Rattle.std.proofs.Common.{rules}
use Rattle.chart.specs.First.{Reads}
use Rattle.chart.proofs.Lasts.{found_last}
use Rattle.chart.proofs.Reaches.{reach_found}
use Rattle.chart.proofs.filled.FilledChart.reach.Goals as goal

pub returns : goal.returns
returns g c =
    let G = g.G.Grammar.model c.args.self.now.chart.grammar.now in
    let ts = c.args.self.now.chart.tokens.now in
    rw c.unwrap_or.ensures
    (reach_found G ts c.args.symbol _ c.find.result c.args.self.now.chart.some
    (found_last _ _ (Reads G ts c.args.symbol) (λ a r f' k. search rules) (λ x k. search rules) (λ x k y. search rules) _ c.rev.result
    c.rev.ensures.runs c.find.result c.find.ensures.runs))
