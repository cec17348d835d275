-- Columns that fit a tree.
--   Fits    columns from 0 to 63, one for each node, fit the tree, with c at its top; the columns of the pieces are given
--   Under   the same for what the items of a node at column c cover from piece i on: the column of each meets its relation
use Rattle.std.specs.Prelude.{◌≡◌, ℕ, suc, ◌+◌, ◌<◌, List, [], ◌∷◌, Some}
use Rattle.std.specs.List.{slice_get}
use Rattle.columns.specs.Relation.{Meets}
use Rattle.grammar.specs.declared.rule.Item.{Item}
use Rattle.grammar.specs.declared.rule.Rule.{Rule}
use Rattle.grammar.specs.Model.{Model}
use Rattle.grammar.specs.Several.{listed}
use Rattle.chart.specs.Trees.{Tree, Children, width}

abbrev mutual
  pub Fits : Model → List ℕ → Tree → ℕ → ℕ → Type 0
  Fits G columns (Tree.node r cs) i c =
      (c < 64) × ((rule : Rule) × (slice_get G.rules r ≡ Some rule) × Under G columns cs (listed rule.items) i c)

  pub Under : Model → List ℕ → Children → List Item → ℕ → ℕ → Type 0
  Under G columns Children.none xs i c = Unit {0}
  Under G columns (Children.piece cs) [] i c = ⊥
  Under G columns (Children.piece cs) (x ∷ xs) i c =
      (d : ℕ) × (slice_get columns i ≡ Some d) × (d < 64) × Meets x.relation c d × Under G columns cs xs (suc i) c
  Under G columns (Children.tree t cs) [] i c = ⊥
  Under G columns (Children.tree t cs) (x ∷ xs) i c =
      (d : ℕ) × Fits G columns t i d × Meets x.relation c d × Under G columns cs xs (i + width t) c
