-- The line that tells a fault.
--   fault_text   the word `fault` with the fault's number, then line and column of the place that it shows, in base ten
--   fault_line   the same with a line end
use Rattle.std.specs.Prelude.{ℕ, List, ◌++◌, codes, decimal}
use Rattle.faults.specs.declared.fault.Fault.{Fault}
use Rattle.faults.specs.Told.{told, shown}

abbrev pub fault_text : Fault → List ℕ
fault_text f =
    codes "fault " ++ (decimal (told f).number ++ (codes " line " ++ (decimal (shown (told f).place).line
    ++ (codes " column " ++ decimal (shown (told f).place).column))))

abbrev pub fault_line : Fault → List ℕ
fault_line f = fault_text f ++ codes "\n"
