-- What the program prints.
--   Prints   the re-indented text, or the line of the fault that refuses it; nothing is said where there is no memory for either
use Rattle.std.specs.Prelude.{◌≡◌, ℕ, ⊤, List, take, replicate, Ok, Err, Result, Vec}
use Rattle.std.specs.declared.alloc.Global.{Global}
use Rattle.std.specs.String.{string_bytes}
use Rattle.faults.specs.declared.fault.Fault.{Fault}
use Rattle.formatter.specs.declared.refusal.Refusal.{Refusal}
use Rattle.formatter.specs.declared.refusal.Refusal.TheVariants.{Fault as Told, Memory}
use Rattle.faults.specs.Line.{fault_line}
use Rattle.formatter.specs.Reindents.{Reindents}

-- the buffer that the text is written to
abbrev pub blank : List ℕ
blank = replicate 12288 0

abbrev pub Prints : List ℕ → Result (Vec ℕ Global) Refusal → Type 0
Prints text (Ok script) = (n : ℕ) × (new : List ℕ) × Reindents text blank (Ok n) new × (script.items ≡ take n new)
Prints text (Err (Told line)) = (f : Fault) × (new : List ℕ) × Reindents text blank (Err f) new × (string_bytes line ≡ fault_line f)
Prints text (Err (Memory e)) = ⊤
