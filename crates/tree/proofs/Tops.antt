-- The top of a tree, as the front of the rule numbers.
use Rattle.std.proofs.Common.{ℕ, List, [], ◌∷◌, refl}
use Rattle.grammar.specs.declared.rule.Symbol.TheVariants.{Nonterminal}
use Rattle.grammar.specs.Model.{Model}
use Rattle.tree.specs.Covering.{Blocked}
use Rattle.tree.specs.Forest.{Tree}

pub no_top : (G : Model) (rs ts : List ℕ) → ((a : ℕ) → Blocked G (Nonterminal a) rs ts) → Tree G rs ts → ⊥
no_top G [] ts blocked t = t
no_top G (r ∷ rs) ts blocked t = blocked t.0.left r rs t.0 refl t.1 refl
