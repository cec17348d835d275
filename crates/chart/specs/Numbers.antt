-- Trees by their rule numbers alone, in preorder.
--   TreeNumbers    a tree over all pieces is given by its rule numbers
--   NumbersOne     at most one tree has these rule numbers
--   NumbersTree    rule numbers that give one tree over these terminals are those of a tree over all pieces
use Rattle.std.specs.Prelude.{◌≡◌, ℕ, List, length}
use Rattle.grammar.specs.Model.{Model}
use Rattle.tree.specs.Forest as numbers
use Rattle.chart.specs.Trees.{Tree, width, preorder, Covers}

abbrev pub TreeNumbers : Type 0
TreeNumbers =
    (G : Model) (terminals : List ℕ) (t : Tree) (A : ℕ) → Covers G terminals t A 0 → width t ≡ length terminals
    → numbers.Tree G (preorder t) terminals

abbrev pub NumbersOne : Type 0
NumbersOne =
    (G : Model) (terminals : List ℕ) (t u : Tree) (A B : ℕ) → Covers G terminals t A 0 → Covers G terminals u B 0
    → preorder t ≡ preorder u → t ≡ u

abbrev pub NumbersTree : Type 0
NumbersTree =
    (G : Model) (terminals rules : List ℕ) → numbers.Tree G rules terminals
    → (t : Tree) × (A : ℕ) × Covers G terminals t A 0 × (width t ≡ length terminals) × (preorder t ≡ rules)
