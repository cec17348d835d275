use Rattle.fitting.proofs.Answered.{answer_breaks, answer_exact, answer_reads}
use Rattle.fitting.proofs.laws_of_answers.Goals as goal

pub returns : goal.returns
returns c = record { reads = answer_reads; exact = answer_exact; breaks = answer_breaks }
