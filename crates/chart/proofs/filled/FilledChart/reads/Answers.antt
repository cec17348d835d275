use Rattle.std.proofs.Common.{arith}
use Rattle.grammar.specs.declared.rule.Symbol.TheVariants.{Nonterminal}
use Rattle.chart.proofs.Opens.{known}
use Rattle.chart.proofs.Reaches.{turned, reads_yes, reads_no}
use Rattle.chart.proofs.filled.FilledChart.reads.Goals as goal

pub part-requires-clause-known : goal.part-requires-clause-known
part-requires-clause-known g c =
    known c.args.self.now (g.met.G.Grammar.lawful _) (Nonterminal c.args.symbol)
    record { from = 0; to = c.args.end; some = omega arith; short = omega (arith, c.args.self.now.chart.board.few) } c.requires.low
    (omega arith)

pub returns : goal.returns
returns g c =
    let G = g.G.Grammar.model c.args.self.now.chart.grammar.now in
    let ts = c.args.self.now.chart.tokens.now in
    let t = turned c.is_empty.result c.is_empty.ensures.columns in
    record {
      yes = λ e. reads_yes G ts c.args.symbol c.args.end c.part.result.bits (omega arith) c.part.ensures (t.0 e);
      no = λ e. reads_no G ts c.args.symbol c.args.end c.part.result.bits (omega arith) c.part.ensures (t.1 e);
    }
