use Rattle.std.proofs.Common.{rules}
use Rattle.std.proofs.lemmas.List.{take_at}
use Rattle.rulefile.proofs.spelling.Spelling.new.Goals as goal

pub returns : goal.returns
returns c = let e = c.copy_from_slice.ensures.after in search (rules, take_at)
