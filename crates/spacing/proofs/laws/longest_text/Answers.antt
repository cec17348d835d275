use Rattle.spacing.proofs.Widest.{longest-is}
use Rattle.spacing.proofs.laws.longest_text.Goals as goal

pub returns : goal.returns
returns c = longest-is
