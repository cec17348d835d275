use Rattle.std.proofs.Common.{[], ◌∷◌, refl}
use Rattle.chart.specs.declared.waiting.Waiting.{Waiting}
use Rattle.chart.proofs.Rows.{row_one}
use Rattle.chart.proofs.Divides.{divided_last}
use Rattle.chart.proofs.Leasts.{some_least, least_of, waits_one, waits_none}
use Rattle.chart.proofs.Opens.{known}
use Rattle.chart.proofs.Stacks.{pushed}
use Rattle.chart.proofs.item_row.ItemItemRow.divide.Goals as goal

pub part-requires-clause-known : goal.part-requires-clause-known
part-requires-clause-known g c =
    known c.args.filled.now (g.met.G.Grammar.lawful _) c.args.self.symbol c.args.s c.requires.below.0 c.requires.within

pub unwrap-column-requires : goal.unwrap-column-requires
unwrap-column-requires g c =
    let G = g.G.Grammar.model c.args.filled.now.chart.grammar.now in
    let ts = c.args.filled.now.chart.tokens.now in
    some_least G ts c.args.self c.args.s.from c.args.s.to c.args.column c.part.result.bits c.part.ensures
    c.least.result c.least.ensures (row_one G ts c.args.self c.args.s.from c.args.s.to c.args.column c.requires.some)

pub returns-in-Nonterminal : goal.returns-in-Nonterminal
returns-in-Nonterminal g c =
    let G = g.G.Grammar.model c.args.filled.now.chart.grammar.now in
    let ts = c.args.filled.now.chart.tokens.now in
    let w : Waiting = record { symbol = c.in-Nonterminal.symbol; column = c.unwrap-column.result; stretch = c.args.s } in (
      w ∷ [],
      pushed w c.args.stack.now c.push.new.self c.push.ensures.items,
      divided_last G ts c.args.self c.args.column c.args.s.from c.args.s.to (w ∷ []) c.requires.some
          (waits_one G ts c.args.self c.args.s.from c.args.s.to c.args.column c.part.result.bits c.part.ensures
          c.in-Nonterminal.symbol w c.in-Nonterminal.is refl refl refl
          (least_of G ts c.args.self c.args.s.from c.args.s.to c.args.column c.part.result.bits c.part.ensures c.unwrap-column.result
          (rw c.unwrap-column.ensures at c.least.ensures))),
    )

pub returns-in_default : goal.returns-in_default
returns-in_default g c =
    let G = g.G.Grammar.model c.args.filled.now.chart.grammar.now in
    let ts = c.args.filled.now.chart.tokens.now in (
      [],
      refl,
      divided_last G ts c.args.self c.args.column c.args.s.from c.args.s.to [] c.requires.some
          (waits_none G ts c.args.self c.args.s.from c.args.s.to c.args.column c.in_default.field-0 c.in_default.is),
    )
