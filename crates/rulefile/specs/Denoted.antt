-- What a terminal of a rule file denotes.
--   denoted       it as a terminal of a grammar
--   alike         a test of a terminal: it is the same class, or the word of the same spelling
--   listed        some terminals as terminals of a grammar
--   is_distinct   no element is the same as one after it, by a test
--   distinct      no two terminals are alike
use Rattle.std.specs.Prelude.{Bool, true, not, ◌&&◌, List, [], ◌∷◌, map, Some}
use Rattle.std.specs.List.{list_all}
use Rattle.pieces.specs.declared.piece.Class.TheVariants as class
use Rattle.grammar.specs.Model as model
use Rattle.rulefile.specs.declared.terminal.Terminal.{Terminal}
use Rattle.rulefile.specs.declared.terminal.Terminal.TheVariants.{Name, Number, Quote, Word}
use Rattle.rulefile.specs.Spelled.{spelled}

abbrev pub denoted : Terminal → model.Terminal
denoted Name = model.class class.Name
denoted Number = model.class class.Number
denoted Quote = model.class class.Quote
denoted (Word w) = model.word (spelled w.spelling)

abbrev pub alike : model.Terminal → model.Terminal → Bool
alike (model.class c) = model.classed (Some c)
alike (model.word w) = model.spelled w

abbrev pub listed : List Terminal → List model.Terminal
listed ts = map denoted ts

abbrev pub is_distinct : {X : Type 0} → (X → X → Bool) → List X → Bool
is_distinct same [] = true
is_distinct same (x ∷ xs) = list_all (λ y. not (same x y)) xs && is_distinct same xs

abbrev pub distinct : List model.Terminal → Bool
distinct ts = is_distinct (λ x y. alike y x) ts
