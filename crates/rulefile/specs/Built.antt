-- Tables that were built from lines.
--   Built      the tables hold what these lines mean; none, if a count is above its limit
--   model_of   what tables mean as a grammar
use Rattle.std.specs.Prelude.{◌≡◌, false, List, length, Some, None, Option}
use Rattle.grammar.specs.Model.{Model}
use Rattle.rulefile.specs.declared.table.Table.{Table}
use Rattle.rulefile.specs.Loaded.{names_of, terminals_of, rules_of, limits}
use Rattle.rulefile.specs.Rows.{Line}
use Rattle.rulefile.specs.Tables.{names, terminals, rules}

abbrev pub Built : List Line → Option Table → Type 0
Built ls (Some t) =
    (names t.names ≡ names_of ls) × (terminals t.terminals ≡ terminals_of ls) × (rules t.rules ≡ rules_of ls)
Built ls None = limits (length (names_of ls)) (length (terminals_of ls)) (length (rules_of ls)) ≡ false

abbrev pub model_of : Table → Model
model_of t = record { nonterminals = length (names t.names); terminals = terminals t.terminals; rules = rules t.rules }
