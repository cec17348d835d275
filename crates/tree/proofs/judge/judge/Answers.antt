use Rattle.std.proofs.Common.{ap, ◌∙◌}
use Rattle.tree.proofs.Steps.{at_some, at_none, came_on, came_back, under}
use Rattle.tree.proofs.judge.judge.Goals as goal

pub loop-preserved : goal.loop-preserved
loop-preserved g c =
    let G = g.G.Grammar.model c.args.grammar.now in
    let w = c.loop.walk in
    let v = c.next.new.self in
    let answer = under 0 w v c.in_ok-next.field-0 (ap g.G.Grammar.model c.loop.invariant.0)
    c.in_ok-next.ensures.next in
    let came = at_some G 0 w v _ _ c.in-Some.is answer in (
      ap (λ x. x.now) c.in_ok-next.ensures.same.grammar ∙ c.loop.invariant.0,
      λ ahead. c.loop.invariant.1 (came_back G 0 0 w v c.in-Some.field-0 came ahead),
      λ tree. came_on G 0 0 w v c.in-Some.field-0 came (c.loop.invariant.2 tree),
    )

pub returns : goal.returns
returns g c =
    let G = g.G.Grammar.model c.args.grammar.now in
    let w = c.loop.walk in
    let v = c.next.new.self in
    let answer = under 0 w v c.in_ok-next.field-0 (ap g.G.Grammar.model c.loop.invariant.0)
    c.in_ok-next.ensures.next in
    c.loop.invariant.1 (at_none G 0 w v _ c.in_default.is answer)
