use Rattle.std.proofs.Common.{◌≡◌, ◌-◌, Some, arith}
use Rattle.pieces.proofs.Steps.{one_piece}
use Rattle.pieces.proofs.reader.PieceReader.next_piece.Goals as goal

pub returns : goal.returns
returns c =
    let y = c.skip_blanks.new.self in
    let x = c.in_ok-class.field-0 in
    let same : x.length - 0 ≡ x.length = omega arith in
    let is : c.at_front.result ≡ Some x = c.in_ok-class.ensures.ok_part in
    record {
      text = c.skip_blanks.ensures.text;
      next = λ _.
          one_piece y.text.now y.offset x.length (x.length - 0) y.position x.class same
          (rw is at c.at_front.ensures) c.skip_blanks.ensures.reads;
      long = λ h. absurd (omega (arith, c.if-self-gt-MAX_TEXT.false));
    }
