use Rattle.text.proofs.Accepting.{accepts}
use Rattle.text.proofs.notes.Notes.verdict.Goals as goal

pub returns : goal.returns
returns c = λ G ps noted.
    accepts G ps c.args.self noted c.in_default.is c.in_default-unknown.is c.if-count-eq0.false c.if-count-gt-MAX_PIECES.false
