use Rattle.spacing.proofs.Accepted.{accepted-alone}
use Rattle.spacing.proofs.Cuts.{apart_cut}
use Rattle.spacing.proofs.Laid.{laid_apart}
use Rattle.spacing.proofs.Reading.{apart_judged, laid-reads}
use Rattle.spacing.proofs.laws.laid_text_is_read_again.Goals as goal

pub returns : goal.returns
returns c = record { apart = laid_apart; falls = apart_cut; reads = apart_judged; laid = laid-reads; accepted = accepted-alone }
