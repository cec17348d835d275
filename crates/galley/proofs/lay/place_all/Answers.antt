use Rattle.std.proofs.Common.{sym, ◌∙◌, arith}
use Rattle.std.proofs.lemmas.List.{set-get_or}
use Rattle.galley.proofs.Left.{left_more, left-none}
use Rattle.galley.proofs.Standing.{standing-none, standing_more, standing-all}
use Rattle.galley.proofs.lay.place_all.Goals as goal

pub loop-piece-init : goal.loop-piece-init
loop-piece-init c = (sym (standing-none c.args.pieces.now), c.iter-places.ensures.rest)

pub loop-piece-preserved : goal.loop-piece-preserved
loop-piece-preserved c =
    let at = left_more c.args.places.now _ _ c.loop-piece.piece-index _ c.loop-piece.invariant.1 c.in-Some.ensures.steps in (
      standing_more c.args.pieces.now c.loop-piece.pieces c.args.places.now c.loop-piece.piece-index _ c.in-Some.place.now
          c.loop-piece.invariant.0 c.loop-piece-test.true at.0 at.1,
      at.2,
    )

pub returns-after-loop-piece : goal.returns-after-loop-piece
returns-after-loop-piece c =
    c.loop-piece.invariant.0
    ∙ standing-all c.args.pieces.now c.args.places.now c.loop-piece.piece-index (omega (arith, c.loop-piece-test.false))

pub returns-in_default : goal.returns-in_default
returns-in_default c =
    let none = left-none c.args.places.now _ c.loop-piece.piece-index c.loop-piece.invariant.1 c.in_default.ensures.steps.0 in
    set-get_or c.loop-piece.pieces c.loop-piece.piece-index _
    ∙ c.loop-piece.invariant.0
    ∙ standing-all c.args.pieces.now c.args.places.now c.loop-piece.piece-index (omega (arith, none))
