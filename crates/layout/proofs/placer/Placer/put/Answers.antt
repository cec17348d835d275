use Rattle.layout.proofs.Puts.{piece_there}
use Rattle.layout.proofs.Widths.{short}
use Rattle.layout.proofs.placer.Placer.put.Goals as goal

pub place-requires : goal.place-requires
place-requires g c =
    let ps = c.args.contents.now.pieces.now in
    let here = piece_there _ _ _ _ c.in-Terminal.is c.requires.there in
    (c.in_ok-answer.ensures.1, short ps c.args.step.now.piece here c.args.contents.now.short)
