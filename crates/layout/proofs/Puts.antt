-- A piece that was placed.
use Rattle.std.proofs.Common.{◌≡◌, ℕ, ◌<◌, subst}
use Rattle.grammar.specs.declared.rule.Symbol.{Symbol}
use Rattle.grammar.specs.declared.rule.Symbol.TheVariants.{Terminal}
use Rattle.layout.specs.Placers.{Within}

pub piece_there : (s : Symbol) (t k n : ℕ) → s ≡ Terminal t → Within s k n → k < n
piece_there s t k n is within = subst (λ (u : Symbol). Within u k n) is within
