use Rattle.std.proofs.Common.{[], ◌∷◌, arith}
use Rattle.columns.specs.Mask.{Means}
use Rattle.chart.specs.Readings.{Row}
use Rattle.chart.proofs.Opens.{lone, inner}
use Rattle.chart.proofs.Picks.{cut_yes, cut_no}
use Rattle.chart.proofs.filled.FilledChart.can_cut.Goals as goal

pub columns-front-requires-clause-inner : goal.columns-front-requires-clause-inner
columns-front-requires-clause-inner g c = inner c.args.self.now (g.met.G.Grammar.lawful _) c.front.result (omega arith)

pub columns-front-requires-clause-lone : goal.columns-front-requires-clause-lone
columns-front-requires-clause-lone g c =
    lone c.args.self.now (g.met.G.Grammar.lawful _) (c.args.x ∷ []) c.front.result (c.requires.below.0, tt) (omega arith)

pub columns-back-requires-clause-inner : goal.columns-back-requires-clause-inner
columns-back-requires-clause-inner g c = inner c.args.self.now (g.met.G.Grammar.lawful _) c.back.result (omega arith)

pub columns-back-requires-clause-lone : goal.columns-back-requires-clause-lone
columns-back-requires-clause-lone g c =
    lone c.args.self.now (g.met.G.Grammar.lawful _) (g.R.ItemRow.first c.args.rest ∷ g.R.ItemRow.others c.args.rest) c.back.result
    c.requires.below.1 (omega arith)

pub returns-clause-yes : goal.returns-clause-yes
returns-clause-yes g c =
    let G = g.G.Grammar.model c.args.self.now.chart.grammar.now in
    let ts = c.args.self.now.chart.tokens.now in
    let y = g.R.ItemRow.first c.args.rest in
    let ys = g.R.ItemRow.others c.args.rest in
    let i = c.args.s.from in
    let j = c.args.s.to in
    let front : Means c.columns-front.result.bits (Row G ts (c.args.x ∷ []) i c.args.cut) =
    rw (c.front.ensures.from, c.front.ensures.to) at c.columns-front.ensures in
    let back : Means c.columns-back.result.bits (Row G ts (y ∷ ys) c.args.cut j) =
    rw (c.back.ensures.from, c.back.ensures.to) at c.columns-back.ensures in
    λ e.
    cut_yes G ts c.args.x y ys i j c.args.column c.args.cut c.columns-front.result.bits c.columns-back.result.bits c.bitand.result.bits
    front back c.bitand.ensures (rw e at c.has.ensures)

pub returns-clause-no : goal.returns-clause-no
returns-clause-no g c =
    let G = g.G.Grammar.model c.args.self.now.chart.grammar.now in
    let ts = c.args.self.now.chart.tokens.now in
    let y = g.R.ItemRow.first c.args.rest in
    let ys = g.R.ItemRow.others c.args.rest in
    let i = c.args.s.from in
    let j = c.args.s.to in
    let front : Means c.columns-front.result.bits (Row G ts (c.args.x ∷ []) i c.args.cut) =
    rw (c.front.ensures.from, c.front.ensures.to) at c.columns-front.ensures in
    let back : Means c.columns-back.result.bits (Row G ts (y ∷ ys) c.args.cut j) =
    rw (c.back.ensures.from, c.back.ensures.to) at c.columns-back.ensures in
    λ e.
    cut_no G ts c.args.x y ys i j c.args.column c.args.cut c.columns-front.result.bits c.columns-back.result.bits c.bitand.result.bits
    front back c.bitand.ensures (rw e at c.has.ensures)
