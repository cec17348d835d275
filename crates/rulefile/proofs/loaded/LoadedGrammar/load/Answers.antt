use Rattle.std.proofs.Common.{ℕ, List, map, sym, ap, ◌∙◌}
use Rattle.std.proofs.lemmas.Option.{MatchOption-at_some, cond_some}
use Rattle.rulefile.specs.Loaded.{by_rows}
use Rattle.rulefile.specs.Parts.{parts, Splits, seven_names}
use Rattle.rulefile.specs.Reading.{row_of}
use Rattle.rulefile.proofs.Loading.{named, was_some, loaded_is}
use Rattle.rulefile.proofs.loaded.LoadedGrammar.load.Goals as goal

pub returns : goal.returns
returns c =
    let file = c.args.file.now in
    let first = c.in_ok-first.first.now in
    let lines = c.in_ok-first.lines.now in
    let f = was_some c.first_part.result _ _ (sym c.ok_or.ensures.value ∙ c.in_ok-first.was) in
    let h = was_some c.new.result _ _ (sym c.ok_or-2.ensures.value ∙ c.in_ok-header.was) in
    let p = MatchOption-at_some _ (λ p. Splits 10 file p.0.now p.1.now) _ f c.first_part.ensures in
    let n = cond_some (seven_names first) first c.in_ok-header.header.names.now (sym c.new.ensures ∙ ap named h) in
    c.grammar.ensures ∙ ap (λ (s : List ℕ). by_rows (map (row_of s) (parts 10 lines))) (sym n.1)
    ∙ sym (loaded_is file first lines c.if-file-gt4096.false (sym c.if-not-all_allowed.ensures) p.0 n.0)
