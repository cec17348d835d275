-- What is printed.
--   spelling_text   the bytes of a spelling if they are text, else nothing
--   terminal_text   a terminal as a rule file writes it
use Rattle.std.specs.Prelude.{ℕ, cond, List, [], ◌∷◌, ◌++◌, codes}
use Rattle.std.specs.Str.{is_utf8}
use Rattle.rulefile.specs.declared.spelling.Spelling.{Spelling}
use Rattle.rulefile.specs.declared.terminal.Terminal.{Terminal}
use Rattle.rulefile.specs.declared.terminal.Terminal.TheVariants.{Name, Number, Quote, Word}
use Rattle.rulefile.specs.Spelled.{spelled}

abbrev pub spelling_text : Spelling → List ℕ
spelling_text s = cond (is_utf8 (spelled s)) (spelled s) []

abbrev pub terminal_text : Terminal → List ℕ
terminal_text Name = codes "name"
terminal_text Number = codes "number"
terminal_text Quote = codes "quote"
terminal_text (Word w) = 39 ∷ spelling_text w.spelling ++ 39 ∷ []
