use Rattle.std.proofs.Common.{sym, ◌∙◌}
use Rattle.rulefile.proofs.Numbered.{number-new, number-full, taken, refused}
use Rattle.rulefile.proofs.numbers.number.Goals as goal

pub returns-in_err-ok-clause-numbered : goal.returns-in_err-ok-clause-numbered
returns-in_err-ok-clause-numbered g c =
    rw c.from_residual.ensures
    (number-full (λ x y. g.T.PartialEq.eq y x) g.row.N c.args.known.now.items c.args.element c.try_push.new.self.items
    (rw (← c.as_slice.ensures.value) (sym c.place.ensures ∙ c.in_default.is))
    (refused c.try_push.result c.in_err-ok.ensures.value c.try_push.ensures.full))

pub returns-clause-numbered : goal.returns-clause-numbered
returns-clause-numbered g c =
    rw c.len-at.ensures.value
    (number-new (λ x y. g.T.PartialEq.eq y x) g.row.N c.args.known.now.items c.args.element c.try_push.new.self.items
    (rw (← c.as_slice.ensures.value) (sym c.place.ensures ∙ c.in_default.is))
    (taken c.try_push.result _ c.in_ok-ok.ensures.value c.try_push.ensures.ok))
