-- The forms of values.
--   Form               what a value gives: an error if it has a wrong form, nothing if it says that an item is missing, else what it says
--   wrong, missing, given   these three
--   nonterminal_name   the name of a nonterminal: a capital letter and up to 11 letters or digits
--   spelling_form      what a word may spell: one name or one sign of at most 12 bytes
--   word_form          what stands behind the opening byte 39 of a word: a spelling and a byte 39
--   class_named        the class of that name
--   class_or           that class if there is one, else another form
--   bare_form          a value without byte 39 in front: - for a missing item, a class, or a nonterminal
--   symbol_form        a word, or a value without byte 39 in front
--   relation_form      = > >= or *, each with or without ! behind it, or - for a missing item
--   item_form          an item by the forms of its two values; lone, if just one of them is missing
use Rattle.std.specs.Prelude.{ℕ, ◌-◌, Bool, true, false, cond, ◌&&◌, List, [], ◌∷◌, length, take, drop, Some, None, Ok, Err, codes}
use Rattle.std.specs.Prelude.{Option, Result, ◌==◌, nat_le, slice_index}
use Rattle.std.specs.Char.{is_ascii_uppercase, is_ascii_alphanumeric}
use Rattle.std.specs.List.{list_all}
use Rattle.std.specs.Str.{bytes_eq}
use Rattle.columns.specs.declared.relation.Relation.{Relation}
use Rattle.columns.specs.declared.relation.Relation.TheVariants.{Equal, Above, AtLeast, Any}
use Rattle.pieces.specs.declared.piece.Class.TheVariants.{Name, Number, Quote}
use Rattle.grammar.specs.Model.{Terminal, class, word}
use Rattle.rulefile.specs.declared.form.Bond.{Bond}
use Rattle.rulefile.specs.declared.form.EntryFault.{EntryFault}
use Rattle.rulefile.specs.declared.form.EntryFault.TheVariants.{Wrong, Lone}
use Rattle.rulefile.specs.declared.form.WrongForm.{WrongForm}
use Rattle.rulefile.specs.Parts.{ends_with}
use Rattle.rulefile.specs.Rows.{Called, nonterminal, terminal, Written}
use Rattle.rulefile.specs.Spelled.{formed}

abbrev pub Form : Type 0 → Type 0
Form X = Result (Option X) WrongForm

abbrev pub wrong : {X : Type 0} → Form X
wrong = Err (record {})

abbrev pub missing : {X : Type 0} → Form X
missing = Ok None

abbrev pub given : {X : Type 0} → X → Form X
given x = Ok (Some x)

-- a capital letter, then letters and digits
abbrev pub capitalized : List ℕ → Bool
capitalized [] = false
capitalized (b ∷ s) = is_ascii_uppercase b && list_all is_ascii_alphanumeric s

-- with at most 12 bytes
abbrev pub short : List ℕ → Option (List ℕ)
short s = cond (nat_le (length s) 12) (Some s) None

-- a symbol as it is called, if there is one
abbrev pub called_so : (List ℕ → Called) → Option (List ℕ) → Form Called
called_so f None = wrong
called_so f (Some s) = given (f s)

abbrev pub nonterminal_name : List ℕ → Option (List ℕ)
nonterminal_name v = cond (capitalized v) (short v) None

abbrev pub nonterminal_form : List ℕ → Form Called
nonterminal_form v = called_so nonterminal (nonterminal_name v)

abbrev pub spelling_form : List ℕ → Form Called
spelling_form s = cond (formed s) (called_so (λ w. terminal (word w)) (short s)) wrong

abbrev pub word_form : List ℕ → Form Called
word_form rest = cond (ends_with 39 rest) (spelling_form (take (length rest - 1) rest)) wrong

abbrev pub class_named : List ℕ → Option Terminal
class_named v =
    cond (bytes_eq (codes "name") v) (Some (class Name))
    (cond (bytes_eq (codes "number") v) (Some (class Number))
    (cond (bytes_eq (codes "quote") v) (Some (class Quote)) None))

-- that class if there is one, or else the other form
abbrev pub class_or : Option Terminal → Form Called → Form Called
class_or None f = f
class_or (Some t) f = given (terminal t)

abbrev pub bare_form : List ℕ → Form Called
bare_form v = cond (bytes_eq (codes "-") v) missing (class_or (class_named v) (nonterminal_form v))

abbrev pub symbol_form : List ℕ → Form Called
symbol_form v = cond (slice_index v 0 == 39) (word_form (drop 1 v)) (bare_form v)

abbrev pub relation_named : List ℕ → Option Relation
relation_named v =
    cond (bytes_eq (codes "=") v) (Some Equal)
    (cond (bytes_eq (codes ">") v) (Some Above)
    (cond (bytes_eq (codes ">=") v) (Some AtLeast)
    (cond (bytes_eq (codes "*") v) (Some Any) None)))

abbrev pub bond : Bool → Option Relation → Form Bond
bond mark None = wrong
bond mark (Some r) = given (record { relation = r; mark = mark })

abbrev pub relation_form : List ℕ → Form Bond
relation_form v =
    cond (bytes_eq (codes "-") v) missing
    (cond (ends_with 33 v) (bond true (relation_named (take (length v - 1) v))) (bond false (relation_named v)))

abbrev pub ItemForm : Type 0
ItemForm = Result (Option Written) EntryFault

abbrev pub item_form : Form Called → Form Bond → ItemForm
item_form (Err w) r = Err Wrong
item_form (Ok s) (Err w) = Err Wrong
item_form (Ok None) (Ok None) = Ok None
item_form (Ok None) (Ok (Some b)) = Err Lone
item_form (Ok (Some s)) (Ok None) = Err Lone
item_form (Ok (Some s)) (Ok (Some b)) = Ok (Some (record { symbol = s; relation = b.relation; mark = b.mark }))
