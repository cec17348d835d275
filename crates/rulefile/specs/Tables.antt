-- What the tables of a loaded grammar hold.
--   names, terminals, rules   the nonterminals' names, the terminals and the rules, in the order of their numbers
--   bounded                   every rule is in the bounds of these names and terminals
use Rattle.std.specs.Prelude.{ℕ, Bool, List, map, length}
use Rattle.arrayvec.specs.ArrayVec.{ArrayVec}
use Rattle.grammar.specs.Model as model
use Rattle.grammar.specs.declared.rule.Rule.{Rule}
use Rattle.rulefile.specs.declared.spelling.Spelling.{Spelling}
use Rattle.rulefile.specs.declared.table.Terminals.{Terminals}
use Rattle.rulefile.specs.Bounds.{all_in_bounds}
use Rattle.rulefile.specs.Spelled.{spelled}
use Rattle.rulefile.specs.Denoted.{listed}

abbrev pub names : ArrayVec Spelling → List (List ℕ)
names n = map spelled n.items

abbrev pub terminals : Terminals → List model.Terminal
terminals t = listed t.list.items

abbrev pub rules : ArrayVec Rule → List Rule
rules r = r.items

-- every rule is in the bounds of these names and terminals
abbrev pub bounded : ArrayVec Spelling → Terminals → ArrayVec Rule → Bool
bounded n t r = all_in_bounds (length (names n)) (length (terminals t)) (rules r)
