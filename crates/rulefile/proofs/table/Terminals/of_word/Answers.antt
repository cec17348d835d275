use Rattle.std.proofs.Common.{◌≡◌, rules, ◌∙◌}
use Rattle.std.proofs.lemmas.Iterator.{YieldsList-from_slice}
use Rattle.std.proofs.lemmas.Iterator.Search.{position_from_yields_List}
use borrow.Author.Tests.{tests}
use Rattle.grammar.specs.Model.{spelled}
use Rattle.rulefile.specs.declared.terminal.Terminal.{Terminal}
use Rattle.rulefile.specs.Denoted.{denoted}
use Rattle.rulefile.proofs.Positions.{first_among}
use Rattle.rulefile.proofs.table.Terminals.of_word.Goals as goal

pub returns : goal.returns
returns c =
    let all = c.args.self.now.list.items in
    let test = λ (t : Terminal). spelled c.args.bytes.now (denoted t) in
    let same : c.map.result ≡ c.position.result = search rules in
    same
    ∙ position_from_yields_List test _ _ c.position.result c.position.ensures.ran (YieldsList-from_slice all cc)
    (λ x b q k. search (rules, tests))
    ∙ first_among denoted (spelled c.args.bytes.now) all
