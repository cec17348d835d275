use Rattle.std.proofs.Common.{get_or, arith}
use Rattle.std.proofs.lemmas.Option.{slice_get-get_or}
use Rattle.text.specs.declared.token.Token.{Token}
use Rattle.chart.specs.Chart.{Exact}
use Rattle.chart.proofs.Parts.{terminal_hit, terminal_miss}
use Rattle.chart.proofs.chart.Chart.part.Goals as goal

pub returns-then-token-t : goal.returns-then-token-t
returns-then-token-t g c =
    rw c.in-Terminal.is
    (terminal_hit (g.G.Grammar.model c.args.self.now.grammar.now) c.args.self.now.tokens.now c.only.result.bits
    c.in-Terminal.t c.args.s.from c.args.s.to _
    (slice_get-get_or c.args.self.now.tokens.now c.args.s.from _ (omega arith)) c.only.ensures c.if-s.true
    c.if-token-t.true)

pub returns-else-s : goal.returns-else-s
returns-else-s g c =
    let t : Token = get_or c.args.self.now.tokens.now c.args.s.from record {
      start = 0;
      length = 0;
      line = 0;
      column = 0;
      terminal =
          0;
    } in
    rw c.in-Terminal.is
    (terminal_miss (g.G.Grammar.model c.args.self.now.grammar.now) c.args.self.now.tokens.now c.in-Terminal.t
    c.args.s.from c.args.s.to t
    (slice_get-get_or c.args.self.now.tokens.now c.args.s.from _ (omega arith)) (λ x y. omega (arith, c.else-s.either)))

pub returns-in-Nonterminal : goal.returns-in-Nonterminal
unfolding Exact
returns-in-Nonterminal g c =
    let G = g.G.Grammar.model c.args.self.now.grammar.now in
    let k : Exact G c.args.self.now.tokens.now c.args.self.now.cells.now c.in-Nonterminal.b c.args.s.from
    c.args.s.to = c.requires.known c.in-Nonterminal.b c.in-Nonterminal.is in
    rw (c.in-Nonterminal.is, c.place.ensures.value) k
