use Rattle.std.proofs.Common.{◌≡◌, ◌+◌, length}
use Rattle.tree.specs.Parts.{parts_left}
use Rattle.tree.specs.Terminals.{terminals_of}
use Rattle.tree.proofs.Naming.{behind, naming}
use Rattle.tree.proofs.terminals.Terminals.of.Given as goal

abbrev pub invariant-loop-bytes : goal.invariant-loop-bytes
invariant-loop-bytes g l =
    record {
      count : length l.list.items + length (parts_left l.bytes-iterator) ≡ length l.contents.pieces.now;
      named : behind l.list.items (naming (g.G.Grammar.model l.grammar) (parts_left l.bytes-iterator))
          ≡ terminals_of (g.G.Grammar.model l.grammar) l.contents.bytes.now l.contents.pieces.now;
    }
