-- Lines that are being filled.
--   placed   where a piece goes that is to stand in a column: on a new line if the cursor is past the column or a break waits;
--            the first piece of all, with the cursor still at 0, never opens one
--   behind   the line behind a piece
--   asked    a line at which an item may ask for a break
use Rattle.std.specs.Prelude.{ℕ, ◌+◌, Bool, false, ◌&&◌, ◌||◌, nat_lt}
use Rattle.layout.specs.declared.line.Line.{Line}
use Rattle.layout.specs.declared.placement.Placement.{Placement}

abbrev pub placed : Line → ℕ → Placement
placed line column = record { column = column; opens_line = nat_lt column line.cursor || (line.breaks && nat_lt 0 line.cursor) }

abbrev pub behind : ℕ → ℕ → Line
behind column length = record { cursor = column + length + 1; breaks = false }

abbrev pub asked : Line → Bool → Line
asked line break = record { cursor = line.cursor; breaks = line.breaks || break }
