-- Items of a tree that are to come, in the order of the text.
--   Slot            an item, its number in its rule, and the rule and the column of its node
--   slots           the items of a node from a number on
--   frame_slots     those of a node of which some are to come
--   slot_at         the next item of a node of which some are to come
--   slots_behind    the items behind it
--   entered_slots   those of a node at which a walk has arrived, once it has a column
--   rest_slots      those of a node if there is one
use Rattle.std.specs.Prelude.{ℕ, ◌+◌, List, [], ◌∷◌, Some, None, Option}
use Rattle.grammar.specs.declared.rule.Item.{Item}
use Rattle.grammar.specs.Model.{Items}
use Rattle.grammar.specs.Several.{listed}
use Rattle.tree.specs.declared.frame.Frame.{Frame}
use Rattle.grammar.specs.declared.rule.Expansion.{Expansion}

pub record Slot : Type 0 where
  pub rule : ℕ
  pub column : ℕ
  pub index : ℕ
  pub item : Item

abbrev pub slots : ℕ → ℕ → ℕ → List Item → List Slot
slots rule column index [] = []
slots rule column index (x ∷ xs) = record { rule = rule; column = column; index = index; item = x } ∷ slots rule column (index + 1) xs

abbrev pub frame_slots : Frame → List Slot
frame_slots f = slots f.rule f.column f.index (listed f.items)

abbrev pub slot_at : Frame → Item → Slot
slot_at f x = record { rule = f.rule; column = f.column; index = f.index; item = x }

abbrev pub slots_behind : Frame → Items → List Slot
slots_behind f items = slots f.rule f.column (f.index + 1) (listed items)

abbrev pub entered_slots : Option Expansion → ℕ → List Slot
entered_slots None column = []
entered_slots (Some e) column = slots e.rule column 0 (listed e.items)

abbrev pub rest_slots : Option Frame → List Slot
rest_slots None = []
rest_slots (Some f) = frame_slots f
