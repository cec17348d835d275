use Rattle.tree.proofs.Naming.{named_long}
use Rattle.layout.proofs.lay_out.lay_out.Goals as goal

pub place-requires-clause-same : goal.place-requires-clause-same
place-requires-clause-same g c =
    named_long (g.G.Grammar.model c.args.grammar.now) c.args.contents.bytes.now c.args.contents.pieces.now _ c.in_ok-terminals.ensures
