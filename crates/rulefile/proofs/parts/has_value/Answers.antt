use Rattle.std.proofs.Common.{rules}
use Rattle.std.specs.Str.{bytes_eq}
use Rattle.std.proofs.lemmas.Iterator.Consumers.{YieldsList-from_first}
use Rattle.std.proofs.lemmas.Iterator.Search.{any_from_yields_List}
use borrow.Author.Tests.{tests}
use Rattle.rulefile.specs.Parts.{parts, values}
use Rattle.rulefile.proofs.parts.has_value.Goals as goal

pub returns : goal.returns
returns c =
    any_from_yields_List {s = c.values.result} (λ v. bytes_eq v c.args.name.now) c.any.new.self _ c.any.result c.any.ensures.ran
    (YieldsList-from_first (λ v. v.now) (λ p. parts p.separator p.rest.now) (values c.args.line.now) cc)
    (λ x b q k. search (rules, tests))
