use Rattle.std.proofs.Common.{◌∙◌}
use Rattle.grammar.specs.Block.{rules}
use Rattle.grammar.proofs.Gets.{get_nth}
use Rattle.grammar.proofs.block.BlockGrammar.rule.Goals as goal

pub returns : goal.returns
returns c = c.copied.ensures ∙ get_nth rules c.args.number c.get.result c.get.ensures.lookup
