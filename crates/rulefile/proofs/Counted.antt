-- A line misses a value just where it is not seven values.
use Rattle.std.proofs.Common.{◌≡◌, Bool, true, false, cond, not, ◌||◌, List, ℕ, Some, None, Err, Option, Result, refl}
use Rattle.rulefile.specs.declared.form.LineFault.{LineFault}
use Rattle.rulefile.specs.declared.form.LineFault.TheVariants.{Count, Form}
use Rattle.rulefile.specs.Forms.{ItemForm}
use Rattle.rulefile.specs.Loaded.{fails}
use Rattle.rulefile.specs.Parts.{seven_values}
use Rattle.rulefile.specs.Reading.{is_wrong, items_from, row_from, row_of, row_with}
use Rattle.rulefile.specs.Rows.{Entries, Line}

with_items : (w : List ℕ) (wrong : Bool) (o : Option Entries) → fails Count (cond wrong (Err Form) (row_with w o)) ≡ false
with_items w true o = refl
with_items w false None = refl
with_items w false (Some xs) = refl

by_forms : (o : Option (List ℕ)) (a b c : ItemForm) → fails Count (row_from o a b c) ≡ false
by_forms None a b c = refl
by_forms (Some w) a b c = with_items w (is_wrong a || is_wrong b || is_wrong c) (items_from a b c)

by_seven : (seven : Bool) (r : Result Line LineFault) → fails Count r ≡ false → fails Count (cond seven r (Err Count)) ≡ not seven
by_seven true r h = h
by_seven false r h = refl

pub fails-count : (first line : List ℕ) → fails Count (row_of first line) ≡ not (seven_values line)
fails-count first line = by_seven (seven_values line) _ (by_forms _ _ _ _)
