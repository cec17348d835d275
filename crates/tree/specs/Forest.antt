-- Trees as lists of rule numbers.
--   Forest   the rule numbers, in preorder, give one tree for each item in turn, over just these terminals
--   Tree     the rule numbers give one tree, whatever its top symbol, over just these terminals
--   Judges   the answer to whether they do
use Rattle.std.specs.Prelude.{◌≡◌, ℕ, List, [], ◌∷◌, ◌++◌, Some, Ok, Err, Result}
use Rattle.std.specs.List.{slice_get}
use Rattle.faults.specs.declared.fault.Fault.{Fault}
use Rattle.faults.specs.declared.fault.Fault.TheVariants.{GrammarMismatch}
use Rattle.grammar.specs.declared.rule.Symbol.TheVariants.{Terminal, Nonterminal}
use Rattle.grammar.specs.declared.rule.Item.{Item}
use Rattle.grammar.specs.declared.rule.Rule.{Rule}
use Rattle.grammar.specs.Model.{Model}
use Rattle.grammar.specs.Several.{listed}

pub data Forest (G : Model) : List Item → List ℕ → List ℕ → Type 0 where
  none : Forest G [] [] []
  piece : {x : Item} {xs : List Item} {rs ts : List ℕ} {t : ℕ}
      → x.symbol ≡ Terminal t
      → Forest G xs rs ts
      → Forest G (x ∷ xs) rs (t ∷ ts)
  node : {x : Item} {xs : List Item} {rs ts : List ℕ} {r : ℕ} {rule : Rule}
      → slice_get G.rules r ≡ Some rule
      → x.symbol ≡ Nonterminal rule.left
      → Forest G (listed rule.items ++ xs) rs ts
      → Forest G (x ∷ xs) (r ∷ rs) ts

abbrev pub Tree : Model → List ℕ → List ℕ → Type 0
Tree G [] ts = ⊥
Tree G (r ∷ rs) ts = (rule : Rule) × (slice_get G.rules r ≡ Some rule) × Forest G (listed rule.items) rs ts

abbrev pub Judges : Model → List ℕ → List ℕ → Result Unit Fault → Type 0
Judges G rules terminals (Ok u) = Tree G rules terminals
Judges G rules terminals (Err f) = (f ≡ GrammarMismatch) × (Tree G rules terminals → ⊥)
