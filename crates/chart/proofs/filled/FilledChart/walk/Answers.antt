use Rattle.std.proofs.Common.{◌≡◌, ℕ, drop, ◌+◌, ◌-◌, List, [], ◌∷◌, ◌++◌, length, reverse, set, sym, ap, ◌∙◌, subst, arith}
use Rattle.std.proofs.lemmas.List.{set-get_or}
use Rattle.tree.specs.declared.node.Node.{Node}
use Rattle.chart.specs.declared.waiting.Waiting.{Waiting}
use Rattle.chart.specs.Waits.{waiting, Writes}
use Rattle.chart.proofs.Rooms.{nodes_mono}
use Rattle.chart.proofs.Stacks.{pushed, popped, emptied}
use Rattle.chart.proofs.Walks.{Walking, few_wait, walk_start, walk_more, walk_end, walk_full}
use Rattle.chart.proofs.filled.FilledChart.walk.Goals as goal

pub loop-count-init : goal.loop-count-init
loop-count-init g c =
    let G = g.G.Grammar.model c.args.self.now.chart.grammar.now in
    let ts = c.args.self.now.chart.tokens.now in
    let old = c.args.nodes.now in
    let top = c.args.top in
    let t : waiting c.push.new.self ≡ top ∷ [] =
    pushed top c.new-stack.result c.push.new.self c.push.ensures.items
    ∙ ap (λ (y : List Waiting). (top ∷ []) ++ reverse y) c.new-stack.ensures in
    let r = nodes_mono G.nonterminals (top.stretch.to - top.stretch.from) (length ts) (omega (arith, c.requires.due.within)) in
    subst (λ (ws : List Waiting). Walking G ts top old ws 0 old) (sym t)
    (walk_start G ts top old c.requires.due (omega (arith, c.requires.room)))

pub enter-requires : goal.enter-requires
enter-requires g c =
    let G = g.G.Grammar.model c.args.self.now.chart.grammar.now in
    let ts = c.args.self.now.chart.tokens.now in
    let old = c.args.nodes.now in
    let h : Walking G ts c.args.top old (c.in-Some.next ∷ waiting c.pop.new.self) c.loop-count.count c.loop-count.nodes =
    subst (λ (ws : List Waiting). Walking G ts c.args.top old ws c.loop-count.count c.loop-count.nodes)
    (popped c.in-Some.next c.loop-count.stack c.pop.new.self c.in-Some.ensures.items) c.loop-count.invariant in
    record {
      due = h.due.0;
      free = omega (arith, h.short, few_wait (waiting c.pop.new.self), c.args.self.now.chart.board.few);
    }

pub loop-count-preserved : goal.loop-count-preserved
loop-count-preserved g c =
    let G = g.G.Grammar.model c.args.self.now.chart.grammar.now in
    let ts = c.args.self.now.chart.tokens.now in
    let old = c.args.nodes.now in
    let h : Walking G ts c.args.top old (c.in-Some.next ∷ waiting c.pop.new.self) c.loop-count.count c.loop-count.nodes =
    subst (λ (ws : List Waiting). Walking G ts c.args.top old ws c.loop-count.count c.loop-count.nodes)
    (popped c.in-Some.next c.loop-count.stack c.pop.new.self c.in-Some.ensures.items) c.loop-count.invariant in
    let e = c.enter.ensures in
    subst (λ (ws : List Waiting). Walking G ts c.args.top old ws (c.loop-count.count + 1)
    (set c.loop-count.nodes c.loop-count.count c.enter.result)) (sym e.1)
    (walk_more G ts c.args.top old c.in-Some.next (waiting c.pop.new.self) e.0 c.enter.result
    c.loop-count.count c.loop-count.nodes h e.2)

pub returns : goal.returns
returns g c =
    let G = g.G.Grammar.model c.args.self.now.chart.grammar.now in
    let ts = c.args.self.now.chart.tokens.now in
    let old = c.args.nodes.now in
    let e : c.loop-count.count ≡ length c.loop-count.nodes = omega arith in
    subst
    (λ (count : ℕ). (ns : List Node) × Writes G ts c.args.top ns × (count ≡ length ns) × (c.loop-count.nodes ≡ ns ++ drop count old)) e
    (walk_full G ts c.args.top old (waiting c.loop-count.stack) c.loop-count.count c.loop-count.nodes c.loop-count.invariant (omega arith))

pub returns-in_default : goal.returns-in_default
returns-in_default g c =
    let G = g.G.Grammar.model c.args.self.now.chart.grammar.now in
    let ts = c.args.self.now.chart.tokens.now in
    let old = c.args.nodes.now in
    rw set-get_or
    (walk_end G ts c.args.top old c.loop-count.count c.loop-count.nodes
    (subst (λ (ws : List Waiting). Walking G ts c.args.top old ws c.loop-count.count c.loop-count.nodes)
    (emptied c.loop-count.stack c.in_default.ensures.variant.1) c.loop-count.invariant))
