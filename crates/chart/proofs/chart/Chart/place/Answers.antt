use Rattle.std.proofs.Common.{arith}
use Rattle.chart.proofs.Places.{place_is}
use Rattle.chart.proofs.Boards.{in_chart}
use Rattle.chart.proofs.chart.Chart.place.Goals as goal

pub returns-clause-value : goal.returns-clause-value
returns-clause-value g c = place_is _ _ _ _ _ c.nonterminals-n.ensures (omega arith)

pub returns-clause-inside : goal.returns-clause-inside
returns-clause-inside g c =
    let chart = c.args.self.now in
    omega (
      arith,
      place_is _ _ c.args.a c.args.s.from c.args.s.to c.nonterminals-n.ensures (omega arith),
      in_chart (g.G.Grammar.model chart.grammar.now) chart.tokens.now chart.cells.now c.args.a c.args.s.from c.args.s.to
          chart.board c.requires.low c.args.s.some c.requires.within,
    )
