use Rattle.std.proofs.Common.{◌≡◌, ℕ, List, length, Some, None, rules, inl, map, ap, sym, ◌∙◌, arith}
use Rattle.std.specs.Prelude.{position}
use Rattle.std.proofs.lemmas.Iterator.Consumers.{YieldsList-from_first}
use Rattle.std.proofs.lemmas.Iterator.Search.{position_from_yields_List}
use borrow.Author.Tests.{tests}
use Rattle.rulefile.specs.Loaded.{fails}
use Rattle.rulefile.specs.Parts.{parts}
use Rattle.rulefile.specs.Reading.{row_of}
use Rattle.rulefile.proofs.Cutting.{few_parts}
use Rattle.rulefile.proofs.Positions.{position-map, numbered_from}
use Rattle.rulefile.proofs.header.Header.line_with.Goals as goal

pub position-requires-clause-fits : goal.position-requires-clause-fits
position-requires-clause-fits c =
    let f = few_parts c.lines.result.separator c.lines.result.rest.now in
    inl (omega (arith, f))

pub overflow_cast-result : goal.overflow_cast-result
overflow_cast-result c =
    let f = few_parts c.lines.result.separator c.lines.result.rest.now in
    let e = ap (λ (s : List ℕ). length s) c.lines.ensures.rest in
    omega (arith, f, e, c.in_ok-at.ensures.bound, c.requires)

pub overflow_add-result : goal.overflow_add-result
overflow_add-result c =
    let f = few_parts c.lines.result.separator c.lines.result.rest.now in
    let e = ap (λ (s : List ℕ). length s) c.lines.ensures.rest in
    omega (arith, f, e, c.in_ok-at.ensures.bound, c.requires)

pub returns-in_err-at : goal.returns-in_err-at
returns-in_err-at c =
    let all = parts 10 c.args.lines.now in
    let row = row_of c.args.self.now.names.now in
    let test = λ (l : List ℕ). fails c.args.fault (row l) in
    let p : c.position.result ≡ position test all
    = position_from_yields_List test c.position.new.self _ c.position.result c.position.ensures.ran
    (YieldsList-from_first (λ l. l.now) (λ p. parts p.separator p.rest.now) {s = c.lines.result} all cc)
    (λ x b q k. search (rules, tests)) in
    c.from_residual.ensures
    ∙ numbered_from (fails c.args.fault) 2 (map row all) None
    (sym (position-map row (fails c.args.fault) all) ∙ sym p ∙ c.in_err-at.was)

pub returns : goal.returns
returns c =
    let all = parts 10 c.args.lines.now in
    let row = row_of c.args.self.now.names.now in
    let test = λ (l : List ℕ). fails c.args.fault (row l) in
    let p : c.position.result ≡ position test all
    = position_from_yields_List test c.position.new.self _ c.position.result c.position.ensures.ran
    (YieldsList-from_first (λ l. l.now) (λ p. parts p.separator p.rest.now) {s = c.lines.result} all cc)
    (λ x b q k. search (rules, tests)) in
    numbered_from (fails c.args.fault) 2 (map row all) (Some _)
    (sym (position-map row (fails c.args.fault) all) ∙ sym p ∙ c.in_ok-at.was)
