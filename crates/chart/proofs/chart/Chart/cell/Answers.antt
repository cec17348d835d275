use Rattle.std.proofs.Common.{◌+◌, sym, subst, arith}
use Rattle.columns.specs.declared.mask.ColumnSet.{ColumnSet}
use Rattle.columns.specs.Mask.{Means}
use Rattle.chart.proofs.Rules.{Rules, rules-none, rules_more, rules_skip, rules-all}
use Rattle.chart.proofs.chart.Chart.cell.Goals as goal
use Rattle.chart.proofs.chart.Chart.cell.Goals.{in-Some, in_default}

pub row-requires : goal.row-requires
row-requires g c =
    let law = (g.met.G.Grammar.lawful c.args.self.now.grammar.now).proper c.loop-number.number
    record { left = c.args.a; items = c.in-Some.items } c.in-Some.ensures in
    record {
      within = c.requires.within;
      below = law.below;
      ordered = law.ordered;
      inner = c.requires.inner;
      upper = c.requires.upper;
    }

pub loop-number-init : goal.loop-number-init
loop-number-init g c =
    rules-none (g.G.Grammar.model c.args.self.now.grammar.now) c.args.self.now.tokens.now c.args.a c.args.s.from c.args.s.to

pub loop-number-preserved : goal.loop-number-preserved
loop-number-preserved g c =
    let G = g.G.Grammar.model c.args.self.now.grammar.now in
    let ts = c.args.self.now.tokens.now in
    let n = c.loop-number.number in
    let P : ColumnSet → Type 0 = λ m. Means m.bits (Rules G ts c.args.a c.args.s.from c.args.s.to (n + 1)) in
    elim c.match-items_of.branch [
      | in-Some w ↦ subst P (sym w.all-is)
          (rw w.bitor_assign.ensures.after
          (rules_more G ts c.args.a c.args.s.from c.args.s.to n c.loop-number.all.bits w.row.result.bits w.in-Some.items
          c.loop-number.invariant w.in-Some.ensures w.row.ensures))
      | in_default w ↦ subst P (sym w.all-is)
          (rules_skip G ts c.args.a c.args.s.from c.args.s.to n c.loop-number.all.bits c.loop-number.invariant w.in_default.ensures)
    ]

pub returns : goal.returns
returns g c =
    rules-all (g.G.Grammar.model c.args.self.now.grammar.now) c.args.self.now.tokens.now c.args.a c.args.s.from
    c.args.s.to c.loop-number.number c.loop-number.all.bits (omega arith) c.loop-number.invariant
