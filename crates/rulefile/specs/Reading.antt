-- What a line of a rule file gives under the names of the first line.
--   items_from   one to three items in a row, from the first on; none if there is a gap
--   row_from     a line by the forms of its values; first of all a wrong form is a fault, then a gap
--   row_of       a line; first of all, if it is not seven values
use Rattle.std.specs.Prelude.{ℕ, Bool, true, false, cond, ◌||◌, List, Some, None, Ok, Err, codes, Option, Result}
use Rattle.rulefile.specs.declared.form.LineFault.{LineFault}
use Rattle.rulefile.specs.declared.form.LineFault.TheVariants.{Count, Form, Gap}
use Rattle.rulefile.specs.declared.form.EntryFault.TheVariants.{Wrong, Lone}
use Rattle.rulefile.specs.Forms.{ItemForm, symbol_form, relation_form, item_form, nonterminal_name}
use Rattle.rulefile.specs.Parts.{values, seven_values, under}
use Rattle.rulefile.specs.Rows.{Written, Entries, Line}
use Rattle.grammar.specs.declared.several.Several.TheVariants.{One, Two, Three}

abbrev pub is_wrong : ItemForm → Bool
is_wrong (Err Wrong) = true
is_wrong (Err Lone) = false
is_wrong (Ok x) = false

-- one item, if no third follows
abbrev pub alone : Written → ItemForm → Option Entries
alone x (Err f) = None
alone x (Ok None) = Some (One x)
alone x (Ok (Some z)) = None

-- two items, and a third if there is one
abbrev pub with_third : Written → Written → ItemForm → Option Entries
with_third x y (Err f) = None
with_third x y (Ok None) = Some (Two x y)
with_third x y (Ok (Some z)) = Some (Three x y z)

abbrev pub with_second : Written → ItemForm → ItemForm → Option Entries
with_second x (Err f) c = None
with_second x (Ok None) c = alone x c
with_second x (Ok (Some y)) c = with_third x y c

abbrev pub items_from : ItemForm → ItemForm → ItemForm → Option Entries
items_from (Err f) b c = None
items_from (Ok None) b c = None
items_from (Ok (Some x)) b c = with_second x b c

abbrev pub row_with : List ℕ → Option Entries → Result Line LineFault
row_with w None = Err Gap
row_with w (Some s) = Ok (record { left = w; items = s })

abbrev pub row_from : Option (List ℕ) → ItemForm → ItemForm → ItemForm → Result Line LineFault
row_from None a b c = Err Form
row_from (Some w) a b c = cond (is_wrong a || is_wrong b || is_wrong c) (Err Form) (row_with w (items_from a b c))

-- an item by the names of its two values
abbrev pub item_at : List ℕ → List ℕ → List ℕ → List ℕ → ItemForm
item_at symbol relation first line =
    item_form (symbol_form (under symbol (values first) (values line))) (relation_form (under relation (values first) (values line)))

abbrev pub row_of : List ℕ → List ℕ → Result Line LineFault
row_of first line =
    cond (seven_values line)
    (row_from (nonterminal_name (under (codes "left") (values first) (values line))) (item_at (codes "sym1") (codes "rel1") first line)
    (item_at (codes "sym2") (codes "rel2") first line) (item_at (codes "sym3") (codes "rel3") first line))
    (Err Count)
