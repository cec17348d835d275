use Rattle.std.proofs.Common.{ℕ, List, map, Result, sym, ap, ◌∙◌, subst}
use Rattle.rulefile.specs.declared.form.LineFault.{LineFault}
use Rattle.rulefile.specs.Loaded.{read, listed_line}
use Rattle.rulefile.specs.Parts.{parts}
use Rattle.rulefile.specs.Reading.{row_of}
use Rattle.rulefile.specs.Rows.{Line}
use Rattle.rulefile.specs.Views.{line}
use Rattle.rulefile.proofs.Built.{Goes, goes_more, goes_full}
use Rattle.rulefile.proofs.header.Header.build.Goals as goal

pub returns-in_err-add : goal.returns-in_err-add
returns-in_err-add c =
    let row = row_of c.args.self.now.names.now in
    let left = read (map row (parts c.next.new.self.separator c.next.new.self.rest.now)) in
    let e = ap (λ (ps : List (List ℕ)). read (map row ps)) c.in-Some.ensures.steps
    ∙ ap (λ (r : Result Line LineFault). listed_line r left) (sym c.in-Ok.ensures) in
    let t = c.loop-line.table in
    let all = read (map row (parts 10 c.args.lines.now)) in
    let g = subst (λ (ls : List Line). Goes all t ls) e c.loop-line.invariant in
    rw c.from_residual.ensures (goes_full all t c.add.new.self (line c.in-Ok.row) left g c.in_err-add.ensures)

pub loop-line-preserved-in-Continue-1 : goal.loop-line-preserved-in-Continue-1
loop-line-preserved-in-Continue-1 c =
    let row = row_of c.args.self.now.names.now in
    let left = read (map row (parts c.next.new.self.separator c.next.new.self.rest.now)) in
    let e = ap (λ (ps : List (List ℕ)). read (map row ps)) c.in-Some.ensures.steps
    ∙ ap (λ (r : Result Line LineFault). listed_line r left) (sym c.in-Ok.ensures) in
    let t = c.loop-line.table in
    let all = read (map row (parts 10 c.args.lines.now)) in
    let g = subst (λ (ls : List Line). Goes all t ls) e c.loop-line.invariant in
    goes_more all t c.add.new.self (line c.in-Ok.row) left _ g c.in_ok-add.ensures
