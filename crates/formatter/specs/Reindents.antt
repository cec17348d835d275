-- Re-indenting a script, by what the galley's calls are.
--   Roomy       an empty galley with room for 4,096 bytes, 128 pieces and 1,785 nodes
--   ReadIn      reading a text as a whole script of the block language, with 8,192 chart numbers
--   Writes      laying out by step 4 and writing from the start of the buffer on
--   Reindents   the text read into such a galley, laid out and written; or refused, with the buffer as it was
use Rattle.std.specs.Prelude.{◌≡◌, ℕ, ◌⊎◌, List, None, Ok, Err, Result}
use Rattle.faults.specs.declared.fault.Fault.{Fault}
use Rattle.grammar.specs.Block.{block}
use Rattle.policy.specs.Policies.{step}
use Rattle.galley.specs.declared.galley.Galley.{Galley}
use Rattle.galley.specs.Stores.{room}
use Rattle.galley.specs.Reads.{ReadsIn}
use Rattle.galley.specs.Prints.{Prints}

pub record Roomy (x : Galley) : Type 0 where
  pub bytes : room x.held.bytes ≡ 4096
  pub pieces : room x.held.pieces ≡ 128
  pub nodes : room x.held.nodes ≡ 1785
  pub empty : x.held.nodes.used ≡ 0
  pub unlaid : x.laid ≡ None

abbrev pub ReadIn : List ℕ → Galley → Result Unit Fault → Galley → Type 0
ReadIn text x r y = ReadsIn block 0 text 8192 x r y

abbrev pub Writes : Galley → List ℕ → Result ℕ Fault → Galley → List ℕ → Type 0
Writes y old r z new = Prints block (step 4) y old 0 r z new

-- x is the galley before the read, y after it, z after the write
pub record Whole (text old : List ℕ) (r : Result ℕ Fault) (new : List ℕ) : Type 0 where
  pub x : Galley
  pub y : Galley
  pub z : Galley
  pub roomy : Roomy x
  pub reads : ReadIn text x (Ok tt) y
  pub writes : Writes y old r z new

-- refused by the read
pub record Unread (text : List ℕ) (f : Fault) : Type 0 where
  pub x : Galley
  pub y : Galley
  pub roomy : Roomy x
  pub reads : ReadIn text x (Err f) y

abbrev pub Reindents : List ℕ → List ℕ → Result ℕ Fault → List ℕ → Type 0
Reindents text old (Ok n) new = Whole text old (Ok n) new
Reindents text old (Err f) new = (new ≡ old) × (Unread text f ⊎ Whole text old (Err f) new)
