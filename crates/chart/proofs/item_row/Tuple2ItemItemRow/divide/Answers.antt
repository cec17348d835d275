use Rattle.std.proofs.Common.{◌∷◌, [], ◌++◌, length, ap, length-append, arith}
use Rattle.chart.specs.Waits.{waiting, Divided}
use Rattle.chart.proofs.Rows.{one_row}
use Rattle.chart.proofs.Waits.{divided_covered}
use Rattle.chart.proofs.Walks.{few_wait}
use Rattle.chart.proofs.Divides.{stacked, divided_lone, divided_more}
use Rattle.chart.proofs.item_row.Tuple2ItemItemRow.divide.Goals as goal

pub divide-requires-2-clause-some : goal.divide-requires-2-clause-some
divide-requires-2-clause-some g c =
    let G = g.G.Grammar.model c.args.filled.now.chart.grammar.now in
    let ts = c.args.filled.now.chart.tokens.now in
    rw (c.front.ensures.from, c.front.ensures.to)
    (one_row G ts c.args.self.0 c.args.s.from c.cut-cut.result c.args.column c.cut-cut.ensures.first.front)

pub divide-requires-2-clause-free : goal.divide-requires-2-clause-free
divide-requires-2-clause-free g c =
    let G = g.G.Grammar.model c.args.filled.now.chart.grammar.now in
    let ts = c.args.filled.now.chart.tokens.now in
    let y = g.R.ItemRow.first c.args.self.1 in
    let ys = g.R.ItemRow.others c.args.self.1 in
    let d = c.divide.ensures in
    omega (
      arith,
      ap length d.1,
      length-append d.0 (waiting c.args.stack.now),
      few_wait d.0,
      divided_covered G ts (y ∷ ys) c.args.column c.back.result.from c.back.result.to d.0 d.2,
    )

pub returns : goal.returns
returns g c =
    let G = g.G.Grammar.model c.args.filled.now.chart.grammar.now in
    let ts = c.args.filled.now.chart.tokens.now in
    let x = c.args.self.0 in
    let y = g.R.ItemRow.first c.args.self.1 in
    let ys = g.R.ItemRow.others c.args.self.1 in
    let i = c.args.s.from in
    let j = c.args.s.to in
    let b = c.divide.ensures in
    let f = c.divide-2.ensures in
    let front : Divided G ts (x ∷ []) c.args.column i c.cut-cut.result f.0 = rw (c.front.ensures.from, c.front.ensures.to) at f.2 in
    let back : Divided G ts (y ∷ ys) c.args.column c.cut-cut.result j b.0 = rw (c.back.ensures.from, c.back.ensures.to) at b.2 in (
      f.0 ++ b.0,
      stacked f.0 b.0 (waiting c.args.stack.now) (waiting c.divide.new.stack) (waiting c.divide-2.new.stack) b.1 f.1,
      divided_more G ts x (y ∷ ys) c.args.column i c.cut-cut.result j f.0 b.0 c.cut-cut.ensures.first
          (divided_lone G ts x c.args.column i c.cut-cut.result f.0 front) back,
    )
