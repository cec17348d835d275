use Rattle.std.proofs.Common.{◌+◌, ◌∷◌, sym, subst, arith}
use Rattle.columns.specs.declared.mask.ColumnSet.{ColumnSet}
use Rattle.columns.specs.Mask.{Means}
use Rattle.chart.specs.Readings.{Part, Row}
use Rattle.chart.proofs.Cuts.{Cuts, begins, cuts_none, cuts_more, cuts_skip, cuts_all}
use Rattle.chart.proofs.item_row.Tuple2ItemItemRow.columns.Goals as goal
use Rattle.chart.proofs.item_row.Tuple2ItemItemRow.columns.Goals.{then-not-is_empty, else-not-is_empty}

pub loop-cut-init : goal.loop-cut-init
loop-cut-init g c =
    let G = g.G.Grammar.model c.args.chart.now.grammar.now in
    let ts = c.args.chart.now.tokens.now in
    let y = g.R.ItemRow.first c.args.self.1 in
    let ys = g.R.ItemRow.others c.args.self.1 in
    cuts_none G ts c.args.self.0 (y ∷ ys) c.args.s.from c.args.s.to c.first_begin-cut.result
    (λ k d l r. omega (arith, begins G ts y ys c.args.s.from k c.args.s.to d l r, c.first_begin-cut.ensures.value))

pub loop-cut-preserved : goal.loop-cut-preserved
loop-cut-preserved g c =
    let G = g.G.Grammar.model c.args.chart.now.grammar.now in
    let ts = c.args.chart.now.tokens.now in
    let x = c.args.self.0 in
    let y = g.R.ItemRow.first c.args.self.1 in
    let ys = g.R.ItemRow.others c.args.self.1 in
    let i = c.args.s.from in
    let j = c.args.s.to in
    let k = c.loop-cut.cut in
    let all = c.loop-cut.all.bits in
    let P : ColumnSet → Type 0 = λ m. Means m.bits (Cuts G ts x (y ∷ ys) i j (k + 1)) in
    let front : Means c.part-front.result.bits (Part G ts x.symbol i k) =
    rw (c.front.ensures.from, c.front.ensures.to) at c.part-front.ensures in
    elim c.if-not-is_empty.branch [
      | then-not-is_empty w ↦
          let back : Means w.columns.result.bits (Row G ts (y ∷ ys) k j) =
          rw (w.back.ensures.from, w.back.ensures.to) at w.columns.ensures in
          subst P (sym w.all-is)
          (rw (w.bitor_assign.ensures.after, w.bitand.ensures)
          (cuts_more G ts x (y ∷ ys) i j k all c.part-front.result.bits w.node_columns.result.bits w.columns.result.bits
          (omega arith) c.loop-cut.invariant front w.node_columns.ensures back))
      | else-not-is_empty w ↦ subst P (sym w.all-is)
          (cuts_skip G ts x (y ∷ ys) i j k all c.part-front.result.bits c.loop-cut.invariant front w.if-not-is_empty.ensures.value)
    ]

pub returns : goal.returns
returns g c =
    cuts_all (g.G.Grammar.model c.args.chart.now.grammar.now) c.args.chart.now.tokens.now c.args.self.0
    (g.R.ItemRow.first c.args.self.1) (g.R.ItemRow.others c.args.self.1) c.args.s.from c.args.s.to c.loop-cut.cut c.loop-cut.all.bits
    (omega (arith, c.past_end-cut-end.ensures.value)) c.loop-cut.invariant
