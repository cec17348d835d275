use Rattle.fitting.proofs.Whole.{laid-fits, laid-reads, lines_break, minimal_exact, only-deep}
use Rattle.fitting.proofs.laws.Goals as goal

pub returns : goal.returns
returns c = record { fits = laid-fits; reads = laid-reads; deep = only-deep; exact = minimal_exact; breaks = lines_break }
