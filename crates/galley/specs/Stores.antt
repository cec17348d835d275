-- Memories and what is held in them.
--   front     the used part of a memory
--   room      how many elements a memory takes
use Rattle.std.specs.Prelude.{ℕ, List, length, take}
use Rattle.galley.specs.declared.store.Store.{Store}

abbrev pub front : {X : Type 0} → Store X → List X
front s = take s.used s.memory.now

abbrev pub room : {X : Type 0} → Store X → ℕ
room s = length s.memory.now
