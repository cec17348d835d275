use Rattle.std.proofs.Common.{◌≡◌, ap, subst, Bor}
use Rattle.std.proofs.lemmas.Result.{err_from_is_err_and}
use Rattle.grammar.specs.Model.{Model}
use Rattle.tree.specs.Covering.{Blocked}
use Rattle.tree.specs.Slots.{frame_slots, rest_slots}
use Rattle.tree.specs.Walks.{pending, rules_left, terminals_left, waiting_slots}
use Rattle.tree.proofs.Walking.{too_high, at_other, still_on, first_slot}
use Rattle.tree.proofs.walk.Walk.next.Goals as goal

pub returns-in_err-keep-clause-next : goal.returns-in_err-keep-clause-next
returns-in_err-keep-clause-next g c =
    let p = err_from_is_err_and c.from_residual.result c.from_residual.ensures.1 in
    let w = c.args.self.now in
    let v = c.open.new.self in
    let opened = c.in-Some.ensures in
    let keep = c.in_err-keep.ensures in
    let first
    = first_slot (pending w c.args.column) (frame_slots c.in-Some.frame) (rest_slots c.split-rest.result.1)
    (waiting_slots v) _ opened.slots c.split-rest.ensures in
    rw (p.1, p.2)
    (keep.slots.0, too_high _ c.args.column w v opened.still _ _ first keep.slots.1)

pub returns-in_err-cover-clause-next : goal.returns-in_err-cover-clause-next
returns-in_err-cover-clause-next g c =
    let p = err_from_is_err_and c.from_residual-in_err-cover.result c.from_residual-in_err-cover.ensures.1 in
    let w = c.args.self.now in
    let v = c.open.new.self in
    let u = c.keep.new.self in
    let opened = c.in-Some.ensures in
    let cover = c.in_err-cover.ensures in
    let first
    = first_slot (pending w c.args.column) (frame_slots c.in-Some.frame) (rest_slots c.split-rest.result.1)
    (waiting_slots v) _ opened.slots c.split-rest.ensures in
    let still = still_on w v u opened.still c.in_ok-keep.ensures.still in
    let model : g.G.Grammar.model u.grammar.now ≡ g.G.Grammar.model w.grammar.now
    = ap (λ (r : Bor g.row.G.Denot). g.G.Grammar.model r.now) still.same.grammar in
    let blocked
    = subst (λ (G : Model). Blocked G c.split-rest.result.0.symbol (rules_left u) (terminals_left u)) model cover.takes.1 in
    rw (p.1, p.2)
    (cover.takes.0, at_other _ c.args.column w u still _ _ first blocked)
