use Rattle.std.proofs.Common.{◌≡◌, ℕ, ◌+◌, ◌-◌, ap, subst, arith}
use Rattle.chart.proofs.Fills.{Stretch, stretch_more, stretch_end}
use Rattle.chart.proofs.chart.Chart.fill_stretch.Goals as goal

pub loop-a-preserved : goal.loop-a-preserved
loop-a-preserved g c =
    let chart = c.loop-a.self in
    let G = g.G.Grammar.model chart.grammar.now in
    let ts = chart.tokens.now in
    let a : ℕ = c.loop-a.a - 1 in
    let e : c.loop-a.a ≡ a + 1 = omega arith in
    let s : Stretch G ts chart.cells.now (a + 1) c.args.s.from c.args.s.to =
    subst (λ (x : ℕ). Stretch G ts chart.cells.now x c.args.s.from c.args.s.to) e c.loop-a.invariant.stretch in
    let n : G.nonterminals ≡ (g.G.Grammar.model c.args.self.now.grammar.now).nonterminals =
    ap (λ x. (g.G.Grammar.model x).nonterminals) c.loop-a.invariant.same.0 in
    record {
      stretch = rw c.place-place.ensures.value
          (stretch_more G ts chart.cells.now c.cell-columns.result.bits a c.args.s.from c.args.s.to (omega arith) (omega arith)
          c.args.s.some s c.cell-columns.ensures);
      same = c.loop-a.invariant.same;
    }

pub returns : goal.returns
returns g c =
    let chart = c.loop-a.self in
    let G = g.G.Grammar.model chart.grammar.now in
    let ts = chart.tokens.now in
    let e : c.loop-a.a ≡ 0 = omega arith in
    record {
      after = stretch_end G ts chart.cells.now c.args.s.from c.args.s.to
          (subst (λ (x : ℕ). Stretch G ts chart.cells.now x c.args.s.from c.args.s.to) e c.loop-a.invariant.stretch);
      same = c.loop-a.invariant.same;
    }
