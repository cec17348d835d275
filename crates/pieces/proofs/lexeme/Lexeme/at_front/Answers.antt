use Rattle.std.proofs.Common.{◌≡◌, get_or, Some}
use Rattle.pieces.specs.declared.piece.Class.TheVariants as class
use Rattle.pieces.specs.Kinds.{kind_of, class_for}
use Rattle.pieces.proofs.Begun.{name_begun, number_begun, quote_left}
use Rattle.pieces.proofs.lexeme.Lexeme.at_front.Goals as goal

pub returns-in-Name : goal.returns-in-Name
returns-in-Name c =
    let a = c.from.ensures in
    let b = c.class.ensures in
    let d = c.in_ok-class.was in
    let f = c.in-Name.is in
    let e : class_for (kind_of (get_or c.args.bytes.now 0 0)) ≡ Some class.Name = cc in
    rw f (name_begun c.args.bytes.now c.name_length-length.result e c.name_length-length.ensures)

pub returns-in-Number : goal.returns-in-Number
returns-in-Number c =
    let a = c.from.ensures in
    let b = c.class.ensures in
    let d = c.in_ok-class.was in
    let f = c.in-Number.is in
    let e : class_for (kind_of (get_or c.args.bytes.now 0 0)) ≡ Some class.Number = cc in
    rw f (number_begun c.args.bytes.now c.number_length-length.result e c.number_length-length.ensures)

pub returns-in_err-length-in-Quote : goal.returns-in_err-length-in-Quote
returns-in_err-length-in-Quote c =
    let a = c.from.ensures in
    let b = c.class.ensures in
    let d = c.in_ok-class.was in
    let f = c.in-Quote.is in
    let e : class_for (kind_of (get_or c.args.bytes.now 0 0)) ≡ Some class.Quote = cc in
    rw c.from_residual-in_err-length-in-Quote.ensures (quote_left c.args.bytes.now e c.in_err-length-in-Quote.ensures)
