use Rattle.std.proofs.Common.{◌≡◌, length, Some, Ok, refl, ap, ◌∙◌}
use Rattle.layout.specs.Text.{text}
use Rattle.galley.specs.Stores.{front}
use Rattle.layout.specs.Standing.{standing}
use Rattle.galley.proofs.LaidOut.{laid_at, lays}
use Rattle.galley.proofs.galley.Galley.lay.Goals as goal

pub returns : goal.returns
returns g c =
    let x = c.args.self.now in
    let h = c.place_pieces.new.self in
    let placed = c.place_pieces.ensures in
    let bytes = c.contents-2.ensures.bytes in
    let pieces = c.contents-2.ensures.pieces in
    let count = c.text_length-length.ensures in
    let long : c.text_length-length.result ≡ length (text 0 (front h.pieces) (front h.bytes)) = cc in
    let out =
    laid_at (g.G.Grammar.model c.args.g.now) (g.P.Policy.answers c.args.policy.now) x (Ok c.in_ok-layout.layout) _ _ _
    c.contents.ensures.bytes c.contents.ensures.pieces c.contents.ensures.nodes c.in_ok-layout.ensures in
    lays _ _ x _ _ c.in_ok-layout.layout c.if-is_some.ensures c.if-self-eq0.false out
    (record {
      number = refl;
      bytes = placed.bytes;
      pieces = placed.pieces ∙ ap (standing (front x.held.pieces)) c.as_slice.ensures.is;
      piece_room = placed.room;
      nodes = placed.nodes;
      laid = ap Some long;
      slip_number = refl;
      slip_length = long;
    })
