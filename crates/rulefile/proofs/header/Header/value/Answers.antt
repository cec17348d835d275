use Rattle.std.proofs.Common.{◌≡◌, ℕ, List, rules}
use Rattle.std.specs.Prelude.{find}
use Rattle.std.specs.Borrow.{Bor}
use Rattle.std.specs.List.{zip}
use Rattle.std.specs.Option.{option_map}
use Rattle.std.specs.Str.{bytes_eq}
use Rattle.std.proofs.lemmas.Iterator.{YieldsList-from_zip}
use Rattle.std.proofs.lemmas.Iterator.Consumers.{YieldsList-from_first}
use Rattle.std.proofs.lemmas.Iterator.Search.{find_from_yields_List}
use borrow.Author.Tests.{tests}
use Rattle.rulefile.specs.declared.parts.Parts.{Parts}
use Rattle.rulefile.specs.Parts.{parts, values}
use Rattle.rulefile.proofs.Under.{seen, under_either}
use Rattle.rulefile.proofs.header.Header.value.Goals as goal

-- a value, and the parts that an iterator has left
abbrev now : Bor (List ℕ) → List ℕ
now v = v.now

abbrev left : Parts → List (List ℕ)
left p = parts p.separator p.rest.now

pub returns : goal.returns
returns c =
    let ns = values c.args.self.now.names.now in
    let vs = values c.args.line.now in
    let f : option_map seen c.find.result ≡ find (λ p. bytes_eq p.0 c.args.name.now) (zip ns vs)
    = find_from_yields_List (λ p. bytes_eq p.0 c.args.name.now) c.find.new.self _ c.find.result c.find.ensures.ran
    (YieldsList-from_zip {s = c.zip.result} (YieldsList-from_first now left {s = c.zip.result.a} ns cc)
    (YieldsList-from_first now left {s = c.zip.result.b} vs cc)) (λ x b q k. search (rules, tests)) in
    under_either c.args.name.now ns vs c.find.result f c.map_or.result
    (λ p e. let k = rw e at c.map_or.ensures in search (rules, tests))
    (λ e. let k = rw e at c.map_or.ensures in search rules)
