use Rattle.std.proofs.Common.{sym, subst}
use Rattle.grammar.specs.Model.{Shape}
use Rattle.grammar.specs.declared.rule.Rule.{Rule}
use Rattle.chart.specs.Waits.{Entered}
use Rattle.chart.proofs.Rules.{rule_hit}
use Rattle.chart.proofs.Enters.{entered}
use Rattle.chart.proofs.filled.FilledChart.enter.Goals as goal

pub divide-requires : goal.divide-requires
divide-requires g c =
    let G = g.G.Grammar.model c.args.self.now.chart.grammar.now in
    let ts = c.args.self.now.chart.tokens.now in
    let w = c.args.next in
    let r = c.lowest_rule-rule.result in
    let e = c.lowest_rule-rule.ensures.items in
    record {
      within = c.requires.due.within;
      below = ((g.met.G.Grammar.lawful c.args.self.now.chart.grammar.now).proper r.rule record {
        left = w.symbol;
        items = r.items;
      } e).below;
      some = rule_hit G ts w.symbol w.stretch.from w.stretch.to r.rule r.items e w.column c.lowest_rule-rule.ensures.lowest.fits;
      free = c.requires.free;
    }

pub returns : goal.returns
returns g c =
    let G = g.G.Grammar.model c.args.self.now.chart.grammar.now in
    let ts = c.args.self.now.chart.tokens.now in
    let w = c.args.next in
    let d = c.divide.ensures in
    let r = c.lowest_rule-rule.result in
    let rule : Rule = record { left = w.symbol; items = r.items } in (
      d.0,
      d.1,
      subst (λ (x : Shape). Entered G ts w record { rule = r.rule; left = w.symbol; shape = x } d.0) (sym c.from.ensures)
          (entered G ts (g.met.G.Grammar.lawful c.args.self.now.chart.grammar.now) w r.rule rule d.0 c.requires.due
          c.lowest_rule-rule.ensures.lowest c.lowest_rule-rule.ensures.items d.2),
    )
