use Rattle.std.proofs.Common.{length, refl, ap, arith}
use Rattle.columns.specs.Mask.{Means}
use Rattle.faults.specs.declared.fault.Fault.TheVariants.{NoReading}
use Rattle.grammar.specs.declared.rule.Symbol.TheVariants.{Nonterminal}
use Rattle.chart.specs.Readings.{Derives}
use Rattle.chart.proofs.Fronts.{reading_derives}
use Rattle.chart.proofs.Opens.{known}
use Rattle.chart.proofs.filled.FilledChart.read.Goals as goal

pub part-columns-requires-clause-known : goal.part-columns-requires-clause-known
part-columns-requires-clause-known g c =
    known c.args.self.now (g.met.G.Grammar.lawful _) (Nonterminal c.args.symbol) c.whole-stretch.result c.requires.low (omega arith)

pub returns-in-None : goal.returns-in-None
returns-in-None g c =
    let G = g.G.Grammar.model c.args.self.now.chart.grammar.now in
    let ts = c.args.self.now.chart.tokens.now in
    let p = c.position.ensures in
    let m : Means c.part-columns.result.bits (Derives G ts c.args.symbol 0 (length ts)) =
    rw (c.whole-stretch.ensures.from, c.whole-stretch.ensures.to) at c.part-columns.ensures in (
      (λ t r.
          let d = reading_derives G ts c.args.symbol t r in
          c.in-None.ensures d.0 (m.whole d.0 d.1, tt)),
      (c.reach.result, p.0, c.reach.ensures, p.1, ap NoReading p.2),
      refl,
    )
