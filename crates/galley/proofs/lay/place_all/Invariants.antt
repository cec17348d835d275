use Rattle.std.proofs.Common.{◌≡◌, take, drop}
use Rattle.layout.specs.Standing.{standing}
use Rattle.galley.proofs.lay.place_all.Given as goal

abbrev pub invariant-loop-piece : goal.invariant-loop-piece
invariant-loop-piece l =
    (l.pieces ≡ standing l.initial.pieces (take l.piece-index l.places-2))
    × (l.places.rest.now ≡ drop l.piece-index l.places-2)
