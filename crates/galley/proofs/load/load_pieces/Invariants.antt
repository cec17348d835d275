use Rattle.std.proofs.Common.{◌≡◌, ◌≤◌, length, take, drop}
use Rattle.galley.specs.Loads.{records_of}
use Rattle.galley.proofs.load.load_pieces.Given as goal

abbrev pub invariant-loop-record : goal.invariant-loop-record
invariant-loop-record l =
    (take l.record-index l.memory ≡ records_of (take l.record-index l.tokens-2))
    × (l.record-index ≤ length l.tokens-2)
    × (l.tokens.rest.now ≡ drop l.record-index l.tokens-2)
