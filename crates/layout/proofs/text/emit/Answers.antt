use Rattle.std.proofs.Common.{ℕ, [], ◌++◌, ap, ◌∙◌}
use Rattle.tree.specs.Parts.{parts_left}
use Rattle.layout.specs.Text.{lead}
use Rattle.layout.proofs.Emits.{one_more, written, written_text}
use Rattle.layout.proofs.Wrote.{wrote_none, wrote_on}
use Rattle.layout.proofs.text.emit.Goals as goal

pub loop-piece-init : goal.loop-piece-init
loop-piece-init c = (
  [],
  wrote_none _,
  ap (written 0) (ap parts_left c.into_iter-piece-iterator.ensures.into_iter_gives ∙ c.parts-piece-items.ensures)
      ∙ written_text 0 c.args.contents.now.pieces.now c.args.contents.now.bytes.now,
)

pub loop-piece-preserved : goal.loop-piece-preserved
loop-piece-preserved c = (
  _,
  wrote_on _ _ _ _ _ c.loop-piece.invariant.1 c.piece.ensures.wrote,
  ap (λ (n : ℕ). (c.loop-piece.invariant.0 ++ (lead c.loop-piece.writer.reached c.in-Some.piece.now ++ c.in-Some.bytes.now))
      ++ written n (parts_left c.next.new.self)) c.piece.ensures.reached
      ∙ one_more c.loop-piece.invariant.0 _ c.loop-piece.writer.reached _ _ _ c.in-Some.ensures.steps c.loop-piece.invariant.2,
)
