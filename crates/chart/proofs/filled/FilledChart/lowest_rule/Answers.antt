use Rattle.std.proofs.Common.{arith, below_more}
use Rattle.chart.proofs.Rules.{rule_miss}
use Rattle.chart.proofs.Opens.{inner, upper}
use Rattle.chart.proofs.Picks.{no_rule, rule-here, rule_past}
use Rattle.chart.proofs.filled.FilledChart.lowest_rule.Goals as goal
use Rattle.chart.proofs.filled.FilledChart.lowest_rule.Goals.{in-Some+else-has, in_default}

pub row-columns-requires : goal.row-columns-requires
row-columns-requires g c =
    let law = (g.met.G.Grammar.lawful c.args.self.now.chart.grammar.now).proper c.loop-number.number
    record { left = c.args.next.symbol; items = c.in-Some.items } c.in-Some.ensures in
    let filled = c.args.self.now in
    record {
      within = c.requires.due.within;
      below = law.below;
      ordered = law.ordered;
      inner = inner filled (g.met.G.Grammar.lawful _) c.args.next.stretch c.requires.due.within;
      upper = upper filled (g.met.G.Grammar.lawful _) c.args.next.symbol c.args.next.stretch c.requires.due.within;
    }

pub returns-then-has : goal.returns-then-has
returns-then-has g c =
    let G = g.G.Grammar.model c.args.self.now.chart.grammar.now in
    let ts = c.args.self.now.chart.tokens.now in
    let w = c.args.next in
    record {
      lowest = rule-here G ts w.symbol w.stretch.from w.stretch.to w.column c.loop-number.number c.row-columns.result.bits c.in-Some.items
          c.in-Some.ensures c.row-columns.ensures c.if-has.ensures c.loop-number.invariant;
      items = c.in-Some.ensures;
    }

pub loop-number-preserved : goal.loop-number-preserved
loop-number-preserved g c =
    let G = g.G.Grammar.model c.args.self.now.chart.grammar.now in
    let ts = c.args.self.now.chart.tokens.now in
    let n = c.args.next in
    elim c.match-items_of.branch [
      | in-Some+else-has w ↦ below_more _ _ c.loop-number.invariant
          (rule_past G ts n.symbol n.stretch.from n.stretch.to n.column c.loop-number.number w.row-columns.result.bits w.in-Some.items
          w.in-Some.ensures w.row-columns.ensures w.if-has.ensures)
      | in_default w ↦ below_more _ _ c.loop-number.invariant
          (rule_miss G ts n.symbol n.stretch.from n.stretch.to c.loop-number.number w.in_default.ensures n.column)
    ]

pub unreachable-requires : goal.unreachable-requires
unreachable-requires g c =
    let G = g.G.Grammar.model c.args.self.now.chart.grammar.now in
    let ts = c.args.self.now.chart.tokens.now in
    let w = c.args.next in
    no_rule G ts w.symbol w.stretch.from w.stretch.to w.column c.loop-number.number (omega arith) c.loop-number.invariant
    c.requires.due.some
