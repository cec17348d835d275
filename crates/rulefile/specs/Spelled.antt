-- What is spelled.
--   spelled   the bytes of a spelling
--   formed    bytes that are one name or one sign
use Rattle.std.specs.Prelude.{ℕ, Bool, ◌||◌, List, take}
use Rattle.grammar.specs.Lawful.{one_name, one_sign}
use Rattle.rulefile.specs.declared.spelling.Spelling.{Spelling}

abbrev pub spelled : Spelling → List ℕ
spelled s = take s.size s.bytes

abbrev pub formed : List ℕ → Bool
formed w = one_name w || one_sign w
