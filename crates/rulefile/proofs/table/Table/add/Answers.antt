use Rattle.std.proofs.Common.{refl}
use Rattle.rulefile.specs.declared.table.Table.{Table}
use Rattle.rulefile.specs.Views.{line}
use Rattle.rulefile.proofs.Added.{left-full, added_or_full}
use Rattle.rulefile.proofs.table.Table.add.Goals as goal

pub returns-in_err-left : goal.returns-in_err-left
returns-in_err-left c =
    rw c.from_residual.ensures (left-full (line c.args.row) c.args.self.now c.nonterminal.new.self c.in_err-left.ensures)

pub returns : goal.returns
returns c =
    let v = c.items.new.self in
    let w : Table = record { names = v.names; terminals = v.terminals; rules = c.try_push.new.self } in
    added_or_full (line c.args.row) c.args.self.now c.nonterminal.new.self v w _ _ c.in_ok-left.ensures c.in_ok-items.ensures refl refl
    c.try_push.result c.ok.result c.ok.ensures.value c.try_push.ensures.ok c.try_push.ensures.full
