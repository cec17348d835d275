use Rattle.std.proofs.Common.{ap, ◌∙◌, length, arith}
use Rattle.tree.specs.Parts.{parts_left}
use Rattle.tree.proofs.Naming.{named_first, parts-long}
use Rattle.tree.proofs.terminals.Terminals.of.Goals as goal

pub loop-bytes-init : goal.loop-bytes-init
loop-bytes-init g c =
    let all = ap parts_left c.into_iter-bytes-iterator.ensures.into_iter_gives ∙ c.parts-bytes-items.ensures in
    let l = ap length all ∙ parts-long c.args.contents.now.bytes.now c.args.contents.now.pieces.now in
    let e = ap length c.new-list.ensures in
    record {
      count = omega arith;
      named = named_first (g.G.Grammar.model c.args.grammar.now) _ _ _ _ c.new-list.ensures all;
    }
