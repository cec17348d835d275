use Rattle.std.proofs.Common.{sym, ◌∙◌}
use Rattle.rulefile.proofs.Begun.{name_begun}
use Rattle.rulefile.proofs.forms.is_formed.Goals as goal

pub returns-in-Letter : goal.returns-in-Letter
returns-in-Letter c = c.all_go_on.ensures ∙ name_begun c.args.bytes.now (sym c.from.ensures ∙ c.in-Letter.is)
