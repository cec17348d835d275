use Rattle.std.proofs.Common.{sym, ◌∙◌}
use Rattle.rulefile.proofs.Begun.{capital_begun}
use Rattle.rulefile.proofs.forms.is_capitalized.Goals as goal

pub returns-then-is_ascii_uppercase : goal.returns-then-is_ascii_uppercase
returns-then-is_ascii_uppercase c =
    c.all_alphanumeric.ensures
    ∙ capital_begun c.args.bytes.now (sym c.is_ascii_uppercase.ensures.value ∙ c.if-is_ascii_uppercase.true)
