-- What a rule file means.
--   Outcome     a grammar, with the names of its nonterminals, or a fault
--   allowed     a byte that a file may have: 10, and 32 to 126
--   line_with   the number of the first line that has a fault, where the lines begin with that number
--   read        the lines that are rules
--   numbered    the nonterminals' names, the terminals and the rules of these, numbered by first appearance
--   limited     counts within their limits, else 6; then rules with one nonterminal in order, else 7
--   by_rows     the lines behind the first one: 3, then 4, then 5, each over all lines
--   loaded      the file: 1, then 2, then its lines
use Rattle.std.specs.Prelude.{ℕ, Bool, true, false, cond, not, ◌&&◌, ◌||◌, List, [], ◌∷◌, map, length, Some, None, Ok, Err, Option}
use Rattle.std.specs.Prelude.{Result, ◌==◌, nat_le, nat_lt}
use Rattle.std.specs.List.{list_all, flat_map, position_from}
use Rattle.faults.specs.declared.fault.Fault.{Fault}
use Rattle.faults.specs.declared.fault.Fault.TheVariants.{FileBytes, FileNames, ValueCount, ValueForm, ItemGap, GrammarSize, UnitRule}
use Rattle.pieces.specs.Kinds.{within}
use Rattle.grammar.specs.declared.rule.Rule.{Rule}
use Rattle.grammar.specs.Model.{Model, Terminal}
use Rattle.rulefile.specs.declared.form.LineFault.{LineFault}
use Rattle.rulefile.specs.declared.form.LineFault.TheVariants.{Count, Form, Gap}
use Rattle.rulefile.specs.Bounds.{unordered}
use Rattle.rulefile.specs.Denoted.{alike}
use Rattle.rulefile.specs.Parts.{parts, seven_names}
use Rattle.rulefile.specs.Places.{gathered, same_name}
use Rattle.rulefile.specs.Reading.{row_of}
use Rattle.rulefile.specs.Rows.{Line, names_in, terminals_in, rule_by}

pub data Outcome : Type 0 where
  accepted : List (List ℕ) → Model → Outcome
  refused : Fault → Outcome

abbrev pub allowed : ℕ → Bool
allowed b = b == 10 || within 32 126 b

abbrev pub same_fault : LineFault → LineFault → Bool
same_fault Count f = elim f [ Count ↦ true | Form ↦ false | Gap ↦ false ]
same_fault Form f = elim f [ Count ↦ false | Form ↦ true | Gap ↦ false ]
same_fault Gap f = elim f [ Count ↦ false | Form ↦ false | Gap ↦ true ]

abbrev pub fails : LineFault → Result Line LineFault → Bool
fails f (Ok l) = false
fails f (Err g) = same_fault f g

abbrev pub line_with : LineFault → ℕ → List (Result Line LineFault) → Option ℕ
line_with f n rs = position_from (fails f) n rs

abbrev pub listed_line : Result Line LineFault → List Line → List Line
listed_line (Ok l) ls = l ∷ ls
listed_line (Err f) ls = ls

abbrev pub read : List (Result Line LineFault) → List Line
read [] = []
read (r ∷ rs) = listed_line r (read rs)

abbrev pub names_of : List Line → List (List ℕ)
names_of ls = gathered same_name [] (flat_map names_in ls)

abbrev pub terminals_of : List Line → List Terminal
terminals_of ls = gathered alike [] (flat_map terminals_in ls)

abbrev pub rules_of : List Line → List Rule
rules_of ls = map (rule_by (names_of ls) (terminals_of ls)) ls

-- refused at a line, if there is one
abbrev pub at_line : (ℕ → Fault) → Option ℕ → Outcome → Outcome
at_line f None o = o
at_line f (Some n) o = refused (f n)

abbrev pub limits : ℕ → ℕ → ℕ → Bool
limits n t r = nat_le 1 n && nat_le n 16 && (nat_le 1 t && nat_le t 32) && (nat_le 1 r && nat_le r 64)

abbrev pub limited : List (List ℕ) → List Terminal → List Rule → Outcome
limited ns ts rs =
    cond (limits (length ns) (length ts) (length rs))
    (at_line UnitRule (unordered 2 rs) (accepted ns (record { nonterminals = length ns; terminals = ts; rules = rs })))
    (refused GrammarSize)

abbrev pub numbered : List Line → Outcome
numbered ls = limited (names_of ls) (terminals_of ls) (rules_of ls)

abbrev pub by_rows : List (Result Line LineFault) → Outcome
by_rows rows =
    at_line ValueCount (line_with Count 2 rows)
    (at_line ValueForm (line_with Form 2 rows) (at_line ItemGap (line_with Gap 2 rows) (numbered (read rows))))

abbrev pub by_lines : List (List ℕ) → Outcome
by_lines [] = refused FileNames
by_lines (first ∷ lines) = cond (seven_names first) (by_rows (map (row_of first) lines)) (refused FileNames)

abbrev pub loaded : List ℕ → Outcome
loaded file = cond (nat_lt 4096 (length file) || not (list_all allowed file)) (refused FileBytes) (by_lines (parts 10 file))
