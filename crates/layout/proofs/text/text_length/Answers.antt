use Rattle.std.proofs.Common.{ℕ, ◌+◌, drop, ap, arith}
use Rattle.layout.specs.Text.{width}
use Rattle.layout.proofs.Widths.{width-next, width-end, short, text_wide}
use Rattle.layout.proofs.text.text_length.Goals as goal

pub loop-piece-preserved : goal.loop-piece-preserved
loop-piece-preserved c =
    let ps = c.args.contents.now.pieces.now in
    let n = width-next ps c.loop-piece.reached c.loop-piece.piece-index c.loop-piece-test.true in
    let s = short ps c.loop-piece.piece-index c.loop-piece-test.true c.args.contents.now.short in
    let e = c.lead_length.ensures in
    let b = ap (λ (at : ℕ). width at (drop (c.loop-piece.piece-index + 1) ps)) c.reached_behind-reached.ensures in
    (omega arith, omega arith)

pub returns : goal.returns
returns c =
    let ps = c.args.contents.now.pieces.now in
    let n = width-end ps c.loop-piece.reached c.loop-piece.piece-index c.loop-piece-test.false in
    let w = text_wide 0 ps c.args.contents.now.bytes.now (omega arith) in
    omega arith
