use Rattle.std.proofs.Common.{arith}
use Rattle.pieces.proofs.Quotes.{closed, unclosed}
use Rattle.pieces.proofs.lexeme.quote_length.Goals as goal
use Rattle.pieces.proofs.lexeme.quote_length.Goals.{else-end-inside-via-then-end-inside+else-inside-end-eq34}
use Rattle.pieces.proofs.lexeme.quote_length.Goals.{else-end-inside-via-else-end-inside}

pub returns-then-inside-end-eq34 : goal.returns-then-inside-end-eq34
returns-then-inside-end-eq34 c =
    closed c.args.inside.now c.quotable_length-end.result c.quotable_length-end.ensures
    c.if-end-inside.true c.if-inside-end-eq34.true

pub returns-else-end-inside : goal.returns-else-end-inside
returns-else-end-inside c =
    unclosed c.args.inside.now c.quotable_length-end.result c.quotable_length-end.ensures
    (λ h e. elim c.else-end-inside.branch [
      | else-end-inside-via-then-end-inside+else-inside-end-eq34 w ↦ w.if-inside-end-eq34.false e
      | else-end-inside-via-else-end-inside w ↦ omega (arith, w.if-end-inside.false)
    ])
