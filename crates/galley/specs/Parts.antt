-- Parts of what a galley holds.
--   Part        pieces with their bytes, and the nodes over them
--   view        all that is held
--   subtree     the tree at a node of which these facts are told, with its pieces and their bytes
--   spliced     a list with a stretch exchanged for others
--   grafted     a part with the tree at that node exchanged for another part
--   short_for   the first memory that is too short for a part, tried as bytes, pieces, nodes
--   Refilled    a galley holds just that part, in its own memories, and is not laid
use Rattle.std.specs.Prelude.{◌≡◌, ℕ, ◌+◌, cond, List, ◌++◌, length, take, drop, Some, None, Option, nat_lt}
use Rattle.faults.specs.declared.fault.Fault.{Fault}
use Rattle.faults.specs.declared.fault.Fault.TheVariants.{ShortMemory}
use Rattle.faults.specs.declared.fault.Memory.TheVariants.{Bytes, Pieces, Nodes}
use Rattle.tree.specs.declared.node.Node.{Node}
use Rattle.tree.specs.declared.piece.PieceRecord.{PieceRecord}
use Rattle.tree.specs.Pieces.{total}
use Rattle.shape.specs.declared.facts.NodeFacts.{NodeFacts}
use Rattle.galley.specs.declared.held.Held.{Held}
use Rattle.galley.specs.declared.galley.Galley.{Galley}
use Rattle.galley.specs.Stores.{front, room}

pub record Part : Type 0 where
  pub bytes : List ℕ
  pub pieces : List PieceRecord
  pub nodes : List Node

abbrev pub view : Held → Part
view h = record { bytes = front h.bytes; pieces = front h.pieces; nodes = front h.nodes }

-- the pieces that a node covers, how many bytes come before them, and how many they have
abbrev pub covered : Part → NodeFacts → List PieceRecord
covered v f = take f.piece_count (drop f.first_piece v.pieces)

abbrev pub bytes_before : Part → NodeFacts → ℕ
bytes_before v f = total (take f.first_piece v.pieces)

abbrev pub bytes_under : Part → NodeFacts → ℕ
bytes_under v f = total (covered v f)

-- k is the node's number
abbrev pub subtree : Part → ℕ → NodeFacts → Part
subtree v k f =
    record {
      bytes = take (bytes_under v f) (drop (bytes_before v f) v.bytes);
      pieces = covered v f;
      nodes = take f.node_count (drop k v.nodes);
    }

abbrev pub spliced : {X : Type 0} → List X → ℕ → ℕ → List X → List X
spliced old at gone new = take at old ++ (new ++ drop (at + gone) old)

abbrev pub grafted : Part → ℕ → NodeFacts → Part → Part
grafted v k f w =
    record {
      bytes = spliced v.bytes (bytes_before v f) (bytes_under v f) w.bytes;
      pieces = spliced v.pieces f.first_piece f.piece_count w.pieces;
      nodes = spliced v.nodes k f.node_count w.nodes;
    }

abbrev pub short_for : Held → Part → Option Fault
short_for h v =
    cond (nat_lt (room h.bytes) (length v.bytes)) (Some (ShortMemory Bytes))
    (cond (nat_lt (room h.pieces) (length v.pieces)) (Some (ShortMemory Pieces))
    (cond (nat_lt (room h.nodes) (length v.nodes)) (Some (ShortMemory Nodes)) None))

pub record Refilled (v : Part) (x y : Galley) : Type 0 where
  pub number : y.number ≡ x.number
  pub unlaid : y.laid ≡ None
  pub holds : view y.held ≡ v
  pub byte_room : room y.held.bytes ≡ room x.held.bytes
  pub piece_room : room y.held.pieces ≡ room x.held.pieces
  pub node_room : room y.held.nodes ≡ room x.held.nodes
