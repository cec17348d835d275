use Rattle.std.proofs.Common.{ℕ, ◌≤◌, length, Err, sym, refl, ap, ◌∙◌, subst, arith}
use Rattle.std.proofs.lemmas.Result.{err_from_is_err_and}
use Rattle.faults.specs.declared.fault.Fault.{Fault}
use Rattle.tree.specs.declared.terminals.Terminals.{Terminals}
use Rattle.tree.specs.Terminals.{listed}
use Rattle.tree.specs.Walks.{rules_of}
use Rattle.tree.proofs.Steps.{at_last, at_some, came_on, under}
use Rattle.layout.specs.Layouts.{LaysOut, lengths}
use Rattle.layout.specs.Placers.{Puts, taken}
use Rattle.layout.proofs.Laying.{SoFar, all_laid, lengths-long, one_more, piece-below, piece-within, puts_long, too_deep}
use Rattle.layout.proofs.Outcomes.{comes_out}
use Rattle.layout.proofs.place.place.Goals as goal

pub returns-in_err-column : goal.returns-in_err-column
returns-in_err-column g c =
    let G = g.G.Grammar.model c.args.grammar.now in
    let P = g.P.Policy.answers c.args.policy.now in
    let column = c.loop-step.column in
    let w = c.loop-step.walk in
    let v = c.next.new.self in
    let next = c.in_ok-step.ensures.next in
    let answer = under column w v c.in_ok-step.field-0 (ap g.G.Grammar.model c.loop-step.invariant.0) next in
    let s = c.in-Some.step in
    let came = at_some G column w v _ s c.in-Some.is answer in
    let rules = rules_of c.args.contents.now.nodes.now in
    let ls = lengths c.args.contents.now.pieces.now in
    let p = err_from_is_err_and c.from_residual-in_err-column.result c.from_residual-in_err-column.ensures.1 in
    let fault = c.in_err-column.ensures in
    let deep = too_deep G P rules ls w v s column c.loop-step.placer came fault.1 c.loop-step.invariant.5 in
    let out = subst (λ (f : Fault). LaysOut G P rules ls (Err f)) (sym fault.0) deep in
    rw (p.1, p.2) (comes_out G P rules ls (Err c.in_err-column.field-0.0) out)

pub loop-step-preserved : goal.loop-step-preserved
loop-step-preserved g c =
    let G = g.G.Grammar.model c.args.grammar.now in
    let P = g.P.Policy.answers c.args.policy.now in
    let column = c.loop-step.column in
    let w = c.loop-step.walk in
    let v = c.next.new.self in
    let next = c.in_ok-step.ensures in
    let answer = under column w v c.in_ok-step.field-0 (ap g.G.Grammar.model c.loop-step.invariant.0) next.next in
    let s = c.in-Some.step in
    let came = at_some G column w v _ s c.in-Some.is answer in
    let same = ap (λ (t : Terminals). length (listed t)) c.loop-step.invariant.1 ∙ c.requires.same in
    let rules = rules_of c.args.contents.now.nodes.now in
    let ls = lengths c.args.contents.now.pieces.now in
    let long = lengths-long c.args.contents.now.pieces.now in
    let before = c.loop-step.placer in
    let after = c.put.new.self in
    let put = c.in_ok-column.ensures in
    let a = taken P s before in
    let within = piece-within G w v _ s.item.symbol came.takes (same ∙ sym long) in
    let puts = subst (λ (k : ℕ). Puts s.item.symbol a ls k before after) came.piece put.2 in
    let shallow : a.column ≤ 63 = subst (λ (k : ℕ). k ≤ 63) put.0 put.1 in
    let on = one_more G P rules ls w v s a before after refl shallow column came within puts c.loop-step.invariant.5 in (
      ap (λ x. x.now) next.same.grammar ∙ c.loop-step.invariant.0,
      ap (λ x. x.now) next.same.terminals ∙ c.loop-step.invariant.1,
      puts_long G w v s.item.symbol a ls before after came.takes puts c.loop-step.invariant.2,
      piece-below G w v _ s.item.symbol came.takes same c.loop-step.invariant.3,
      came_on G column c.in_ok-column.column w v s came c.loop-step.invariant.4,
      subst (λ (k : ℕ). SoFar G P rules ls v k after) (sym put.0) on,
    )

pub returns : goal.returns
returns g c =
    let G = g.G.Grammar.model c.args.grammar.now in
    let P = g.P.Policy.answers c.args.policy.now in
    let column = c.loop-step.column in
    let w = c.loop-step.walk in
    let v = c.next.new.self in
    let next = c.in_ok-step.ensures.next in
    let answer = under column w v c.in_ok-step.field-0 (ap g.G.Grammar.model c.loop-step.invariant.0) next in
    let same = ap (λ (t : Terminals). length (listed t)) c.loop-step.invariant.1 ∙ c.requires.same in
    let rules = rules_of c.args.contents.now.nodes.now in
    let ls = lengths c.args.contents.now.pieces.now in
    let long = lengths-long c.args.contents.now.pieces.now in
    let placer = c.loop-step.placer in
    let ended = at_last G column w v _ c.in_default.is answer in
    let laid = all_laid G P rules ls w column placer ended (same ∙ sym long) (omega arith) c.loop-step.invariant.5 in
    rw c.layout.ensures (comes_out G P rules ls _ laid)
