use Rattle.rulefile.specs.Denoted.{denoted, alike}
use Rattle.rulefile.proofs.Alike.{alike_is, still_distinct}
use Rattle.rulefile.proofs.Numbered.{numbers-seen}
use Rattle.rulefile.proofs.table.Terminals.number.Goals as goal

pub invariant_of-self : goal.invariant_of-self
invariant_of-self c = record {
  once = still_distinct c.args.self.now.list c.number.new.known (denoted c.args.terminal) c.number.result c.args.self.now.once
      (numbers-seen denoted alike _ alike_is 32 c.args.self.now.list.items c.args.terminal c.number.result c.number.new.known.items
      c.number.ensures.numbered)
      c.number.ensures.full;
}

pub returns : goal.returns
returns c =
    numbers-seen denoted alike _ alike_is 32 c.args.self.now.list.items c.args.terminal c.number.result c.number.new.known.items
    c.number.ensures.numbered
