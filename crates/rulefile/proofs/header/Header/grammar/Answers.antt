use Rattle.std.proofs.Common.{sym, ◌∙◌}
use Rattle.rulefile.proofs.Bounded.{built_bounded}
use Rattle.rulefile.proofs.Loading.{was_some}
use Rattle.rulefile.proofs.header.Header.grammar.Goals as goal

pub finish-requires : goal.finish-requires
finish-requires c =
    let b = was_some c.build.result _ _ (sym c.ok_or.ensures.value ∙ c.in_ok-ok_or.was) in
    built_bounded _ c.in_ok-ok_or.field-0 (rw b at c.build.ensures)
