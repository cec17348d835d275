use Rattle.std.proofs.Common.{Some, None, refl}
use Rattle.pieces.specs.Reader.{found}
use Rattle.text.proofs.Noting.{noted_more, taken, left}
use Rattle.text.proofs.notes.Notes.add.Goals as goal

pub returns-in-Some : goal.returns-in-Some
returns-in-Some g c = λ ps noted.
    let p = c.try_push.ensures in
    noted_more (g.G.Grammar.model c.args.g.now) ps (found c.args.piece) c.args.self.now _
    c.terminal-terminal.result c.is_out_of_bounds.result c.is_none.result (Some c.in-Some.token) noted
    c.terminal-terminal.ensures c.is_out_of_bounds.ensures c.is_none.ensures c.in-Some.ensures refl
    (rw c.then_some-outside.ensures at c.or-self.ensures) (rw c.then_some-unknown.ensures at c.or-self-2.ensures)
    (taken c.args.self.now.tokens c.try_push.new.self c.in-Some.token c.try_push.result p.variant p.ok p.err p.full)

pub returns-in_default : goal.returns-in_default
returns-in_default g c = λ ps noted.
    let G = g.G.Grammar.model c.args.g.now in
    noted_more G ps (found c.args.piece) c.args.self.now _
    c.terminal-terminal.result c.is_out_of_bounds.result c.is_none.result None noted
    c.terminal-terminal.ensures c.is_out_of_bounds.ensures c.is_none.ensures c.in_default.ensures refl
    (rw c.then_some-outside.ensures at c.or-self.ensures) (rw c.then_some-unknown.ensures at c.or-self-2.ensures)
    (left G ps c.args.self.now noted)
