use Rattle.std.proofs.Common.{sym, ap, ◌∙◌, not}
use Rattle.rulefile.proofs.Counted.{fails-count}
use Rattle.rulefile.proofs.header.Header.fails.Goals as goal

pub returns-in-Count : goal.returns-in-Count
returns-in-Count c =
    rw c.in-Count.is (ap not c.has_seven_values.ensures ∙ sym (fails-count c.args.self.now.names.now c.args.line.now))
