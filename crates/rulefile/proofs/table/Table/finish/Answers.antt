use Rattle.std.proofs.Common.{List, length, sym, ap, arith}
use Rattle.rulefile.specs.declared.terminal.Terminal.{Terminal}
use Rattle.rulefile.specs.Tables.{rules}
use Rattle.rulefile.proofs.Finished.{all-ordered}
use Rattle.rulefile.proofs.table.Table.finish.Goals as goal

pub invariant_of-result : goal.invariant_of-result
invariant_of-result c =
    let t = ap (λ (ts : List Terminal). length ts) c.as_slice-terminals.ensures.is in
    record {
      some = (omega (arith, c.if-len-eq0.false), omega (arith, c.if-terminals-eq0.false), omega (arith, c.if-len-eq0-2.false));
      few = (omega arith, omega arith, omega arith);
      bounded = c.requires;
      in_order = all-ordered 2 (rules c.args.self.rules) (sym c.in-None.ensures);
    }
