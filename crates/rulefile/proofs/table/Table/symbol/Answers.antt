use Rattle.std.proofs.Common.{[], ◌∷◌, Some, sym, ap, refl, subst}
use Rattle.grammar.specs.declared.rule.Symbol.TheVariants as symbol
use Rattle.rulefile.specs.declared.row.Mention.{Mention}
use Rattle.rulefile.specs.declared.table.Table.{Table}
use Rattle.rulefile.specs.Denoted.{denoted}
use Rattle.rulefile.specs.Rows.{symbol_by}
use Rattle.rulefile.specs.Views.{called, Gives}
use Rattle.rulefile.specs.Symbols.{terminal-numbered}
use Rattle.rulefile.proofs.table.Table.symbol.Goals as goal

pub returns-in_ok-nonterminal-in-Nonterminal : goal.returns-in_ok-nonterminal-in-Nonterminal
returns-in_ok-nonterminal-in-Nonterminal c =
    let t = c.args.self.now in
    let u = c.nonterminal.new.self in
    let x = symbol.Nonterminal c.in_ok-nonterminal-in-Nonterminal.field-0 in
    let g = c.in_ok-nonterminal-in-Nonterminal.ensures in
    subst (λ (m : Mention). Gives (called m ∷ []) (λ ns ts. symbol_by ns ts (called m)) t (Some x) u) (sym c.in-Nonterminal.is)
    (g.0, g.1, λ ns ts. ap symbol.Nonterminal (g.2 ns ts), g.3)

pub returns-in_ok-number-in-Terminal : goal.returns-in_ok-number-in-Terminal
returns-in_ok-number-in-Terminal c =
    let t = c.args.self.now in
    let u : Table = record { names = t.names; terminals = c.number.new.self; rules = t.rules } in
    let x = symbol.Terminal c.in_ok-number-in-Terminal.field-0 in
    let e = c.in_ok-number-in-Terminal.ensures in
    subst (λ (m : Mention). Gives (called m ∷ []) (λ ns ts. symbol_by ns ts (called m)) t (Some x) u) (sym c.in-Terminal.is)
    (terminal-numbered t u (denoted c.in-Terminal.terminal) c.in_ok-number-in-Terminal.field-0 e.0 e.1 refl refl)
