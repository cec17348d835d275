use Rattle.std.proofs.Common.{◌≡◌, sum_by, ◌∙◌, rules}
use Rattle.tree.specs.declared.piece.PieceRecord.{PieceRecord}
use Rattle.galley.proofs.Taking.{total_sum}
use Rattle.galley.proofs.sum.sum_lengths.Goals as goal

pub returns : goal.returns
returns c =
    let e : c.sum.result ≡ sum_by (λ (p : PieceRecord). p.length) c.args.pieces.now = search rules in
    e ∙ total_sum c.args.pieces.now
