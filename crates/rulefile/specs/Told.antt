-- What loading a file answers.
--   told   the loaded grammar with the names of its nonterminals, or the fault
use Rattle.std.specs.Prelude.{Ok, Err, Result}
use Rattle.faults.specs.declared.fault.Fault.{Fault}
use Rattle.rulefile.specs.declared.loaded.LoadedGrammar.{LoadedGrammar}
use Rattle.rulefile.specs.Built.{model_of}
use Rattle.rulefile.specs.Loaded.{Outcome, accepted, refused}
use Rattle.rulefile.specs.Tables.{names}

abbrev pub told : Result LoadedGrammar Fault → Outcome
told (Ok g) = accepted (names g.table.names) (model_of g.table)
told (Err f) = refused f
