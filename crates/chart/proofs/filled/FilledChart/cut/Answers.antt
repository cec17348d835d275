use Rattle.std.proofs.Common.{rules, ℕ, ◌∷◌}
use Rattle.std.proofs.lemmas.Iterator.{first_from_Range}
use Rattle.chart.specs.First.{CutAt}
use Rattle.chart.proofs.Picks.{some_cut, first_cut}
use Rattle.chart.proofs.filled.FilledChart.cut.Goals as goal

pub unwrap-requires : goal.unwrap-requires
unwrap-requires g c =
    let G = g.G.Grammar.model c.args.self.now.chart.grammar.now in
    let ts = c.args.self.now.chart.tokens.now in
    let y = g.R.ItemRow.first c.args.rest in
    let ys = g.R.ItemRow.others c.args.rest in
    let i = c.args.s.from in
    let j = c.args.s.to in
    let at : ℕ → Type 0 = CutAt G ts c.args.x (y ∷ ys) i j c.args.column in
    some_cut G ts c.args.x y ys i j c.args.column _ _ c.first_begin.ensures.value c.past_end.ensures.value c.find.result
    (first_from_Range _ _ _ c.find.result at (λ k. at k → ⊥) c.find.ensures.ran (λ k q e. search rules) (λ k q e. search rules))
    c.requires.some

pub returns-clause-first : goal.returns-clause-first
returns-clause-first g c =
    let G = g.G.Grammar.model c.args.self.now.chart.grammar.now in
    let ts = c.args.self.now.chart.tokens.now in
    let y = g.R.ItemRow.first c.args.rest in
    let ys = g.R.ItemRow.others c.args.rest in
    let i = c.args.s.from in
    let j = c.args.s.to in
    let at : ℕ → Type 0 = CutAt G ts c.args.x (y ∷ ys) i j c.args.column in
    let t =
    first_from_Range _ _ _ c.find.result at (λ k. at k → ⊥) c.find.ensures.ran (λ k q e. search rules) (λ k q e. search rules) in
    let f = rw c.unwrap.ensures at t in
    first_cut G ts c.args.x y ys i j c.args.column _ _ c.first_begin.ensures.value c.past_end.ensures.value c.unwrap.result f.2 f.3
