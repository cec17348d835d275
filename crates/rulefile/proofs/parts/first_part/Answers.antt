use Rattle.std.proofs.Common.{◌≡◌, ◌<◌, eqb, length, rules, sym, ◌∙◌, arith}
use Rattle.std.specs.Prelude.{position}
use Rattle.std.proofs.lemmas.Bool.{eqb-false}
use Rattle.std.proofs.lemmas.Iterator.{YieldsList-from_slice}
use Rattle.std.proofs.lemmas.Iterator.Search.{position_from_yields_List}
use borrow.Author.Tests.{tests}
use Rattle.rulefile.proofs.Cutting.{cut_at, cut_none}
use Rattle.rulefile.proofs.parts.first_part.Goals as goal

pub returns-in-Some : goal.returns-in-Some
returns-in-Some c =
    let p : c.position.result ≡ position (λ b. eqb b c.args.separator) c.args.bytes.now
    = position_from_yields_List (λ b. eqb b c.args.separator) _ _ c.position.result c.position.ensures.ran
    (YieldsList-from_slice c.args.bytes.now cc) (λ x b q k. search (rules, tests)) in
    cut_at c.args.separator c.args.bytes.now c.in-Some.end (sym p ∙ c.in-Some.is)

pub returns-in-None : goal.returns-in-None
returns-in-None c =
    let p : c.position.result ≡ position (λ b. eqb b c.args.separator) c.args.bytes.now
    = position_from_yields_List (λ b. eqb b c.args.separator) _ _ c.position.result c.position.ensures.ran
    (YieldsList-from_slice c.args.bytes.now cc) (λ x b q k. search (rules, tests)) in
    let some : 0 < length c.args.bytes.now = omega (arith, eqb-false (length c.args.bytes.now) 0 (sym c.if-is_empty.ensures)) in
    cut_none c.args.separator c.args.bytes.now some (sym p ∙ c.in-None.is)
