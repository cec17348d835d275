-- A galley before and after a call.
--   Unchanged   it is the same: its number, all that its memories hold, and whether it is laid
--   Empty       a new galley with that number over these memories
use Rattle.std.specs.Prelude.{◌≡◌, ℕ, List, None}
use Rattle.std.specs.Borrow.{MutBor}
use Rattle.tree.specs.declared.node.Node.{Node}
use Rattle.tree.specs.declared.piece.PieceRecord.{PieceRecord}
use Rattle.galley.specs.declared.galley.Galley.{Galley}

abbrev pub Unchanged : Galley → Galley → Type 0
Unchanged x y = y ≡ x

-- nothing is held, in these memories
pub record Empty (number : ℕ) (bytes : MutBor (List ℕ)) (pieces : MutBor (List PieceRecord)) (nodes : MutBor (List Node))
    (x : Galley) : Type 0
  where
    pub is : x.number ≡ number
    pub byte_memory : x.held.bytes.memory ≡ bytes
    pub piece_memory : x.held.pieces.memory ≡ pieces
    pub node_memory : x.held.nodes.memory ≡ nodes
    pub no_bytes : x.held.bytes.used ≡ 0
    pub no_pieces : x.held.pieces.used ≡ 0
    pub no_nodes : x.held.nodes.used ≡ 0
    pub unlaid : x.laid ≡ None
