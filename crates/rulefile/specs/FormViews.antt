-- What was found in a line, in the words of the definitions.
--   symbol_view, item_view   the form of a symbol and of an item
--   row_view                 a line, or why it is none
use Rattle.std.specs.Prelude.{Option, Result}
use Rattle.std.specs.Option.{option_map}
use Rattle.std.specs.Result.{result_map_both}
use Rattle.rulefile.specs.declared.form.EntryFault.{EntryFault}
use Rattle.rulefile.specs.declared.form.LineFault.{LineFault}
use Rattle.rulefile.specs.declared.form.WrongForm.{WrongForm}
use Rattle.rulefile.specs.declared.row.Entry.{Entry}
use Rattle.rulefile.specs.declared.row.Mention.{Mention}
use Rattle.rulefile.specs.declared.row.Row.{Row}
use Rattle.rulefile.specs.Rows.{Called, Line}
use Rattle.rulefile.specs.Forms.{Form, ItemForm}
use Rattle.rulefile.specs.Views.{called, written, line}

abbrev pub symbol_view : Result (Option Mention) WrongForm → Form Called
symbol_view r = result_map_both (option_map called) (λ w. w) r

abbrev pub item_view : Result (Option Entry) EntryFault → ItemForm
item_view r = result_map_both (option_map written) (λ f. f) r

abbrev pub row_view : Result Row LineFault → Result Line LineFault
row_view r = result_map_both line (λ f. f) r
