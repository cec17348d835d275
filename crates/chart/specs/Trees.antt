-- Trees over neighbouring pieces.
--   Tree       a node that names a rule by its number, and what its items cover
--   Children   what items cover, in order: each one piece, or a tree
--   width      how many pieces a tree covers
--   preorder   a tree's rule numbers, each node before those below it
--   Covers     the tree covers the pieces from i on, whose terminals are given, and has A on the left of its top rule
--   Divide     the children are what these items cover from piece i on
use Rattle.std.specs.Prelude.{◌≡◌, ℕ, suc, ◌+◌, List, [], ◌∷◌, ◌++◌, Some}
use Rattle.std.specs.List.{slice_get}
use Rattle.grammar.specs.declared.rule.Symbol.TheVariants.{Terminal, Nonterminal}
use Rattle.grammar.specs.declared.rule.Item.{Item}
use Rattle.grammar.specs.declared.rule.Rule.{Rule}
use Rattle.grammar.specs.Model.{Model}
use Rattle.grammar.specs.Several.{listed}

mutual
  pub data Tree : Type 0 where
    node : ℕ → Children → Tree

  pub data Children : Type 0 where
    none : Children
    piece : Children → Children
    tree : Tree → Children → Children

abbrev mutual
  pub width : Tree → ℕ
  width (node r cs) = widths cs

  pub widths : Children → ℕ
  widths none = 0
  widths (piece cs) = suc (widths cs)
  widths (tree t cs) = width t + widths cs

abbrev mutual
  pub preorder : Tree → List ℕ
  preorder (node r cs) = r ∷ preorders cs

  pub preorders : Children → List ℕ
  preorders none = []
  preorders (piece cs) = preorders cs
  preorders (tree t cs) = preorder t ++ preorders cs

abbrev mutual
  pub Covers : Model → List ℕ → Tree → ℕ → ℕ → Type 0
  Covers G terminals (node r cs) A i =
      (rule : Rule) × (slice_get G.rules r ≡ Some rule) × (rule.left ≡ A) × Divide G terminals cs (listed rule.items) i

  pub Divide : Model → List ℕ → Children → List Item → ℕ → Type 0
  Divide G terminals none [] i = Unit {0}
  Divide G terminals none (x ∷ xs) i = ⊥
  Divide G terminals (piece cs) [] i = ⊥
  Divide G terminals (piece cs) (x ∷ xs) i =
      (a : ℕ) × (x.symbol ≡ Terminal a) × (slice_get terminals i ≡ Some a) × Divide G terminals cs xs (suc i)
  Divide G terminals (tree t cs) [] i = ⊥
  Divide G terminals (tree t cs) (x ∷ xs) i =
      (b : ℕ) × (x.symbol ≡ Nonterminal b) × Covers G terminals t b i × Divide G terminals cs xs (i + width t)
