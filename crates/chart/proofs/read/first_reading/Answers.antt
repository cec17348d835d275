use Rattle.chart.proofs.Once.{all_read, all_one}
use Rattle.chart.proofs.Exists.{all_exist}
use Rattle.chart.proofs.Numbers.{all-numbers, all-numbered, all_trees}
use Rattle.chart.proofs.read.first_reading.Goals as goal

pub returns-in_err-check_fit-clause-reads : goal.returns-in_err-check_fit-clause-reads
returns-in_err-check_fit-clause-reads g c = all_read

pub returns-in_err-check_fit-clause-one : goal.returns-in_err-check_fit-clause-one
returns-in_err-check_fit-clause-one g c = all_one

pub returns-in_err-check_fit-clause-exists : goal.returns-in_err-check_fit-clause-exists
returns-in_err-check_fit-clause-exists g c = all_exist

pub returns-in_err-check_fit-clause-numbers : goal.returns-in_err-check_fit-clause-numbers
returns-in_err-check_fit-clause-numbers g c = all-numbers

pub returns-in_err-check_fit-clause-single : goal.returns-in_err-check_fit-clause-single
returns-in_err-check_fit-clause-single g c = all-numbered

pub returns-in_err-check_fit-clause-trees : goal.returns-in_err-check_fit-clause-trees
returns-in_err-check_fit-clause-trees g c = all_trees

pub returns-clause-reads : goal.returns-clause-reads
returns-clause-reads g c = all_read

pub returns-clause-one : goal.returns-clause-one
returns-clause-one g c = all_one

pub returns-clause-exists : goal.returns-clause-exists
returns-clause-exists g c = all_exist

pub returns-clause-numbers : goal.returns-clause-numbers
returns-clause-numbers g c = all-numbers

pub returns-clause-single : goal.returns-clause-single
returns-clause-single g c = all-numbered

pub returns-clause-trees : goal.returns-clause-trees
returns-clause-trees g c = all_trees
