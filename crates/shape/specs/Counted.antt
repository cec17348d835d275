-- How the facts of a node are counted.
--   pieces_before   the pieces before the node of that number among some children
--   Adds            a number is the sum of what is counted of each of some children
--   Path            pieces so far, and trees so far that no node above them has been found for
--   path            both for the nodes before a node, counted from the last of them on: a node with no more kids than there
--                   are such trees has them all below it, any other is above the node
--   span            how many nodes the first trees of a list have
use Rattle.std.specs.Prelude.{◌≡◌, ℕ, zero, suc, ◌+◌, ◌-◌, cond, List, [], ◌∷◌, nat_le}
use Rattle.grammar.specs.declared.rule.Child.{Child}
use Rattle.grammar.specs.declared.rule.Child.TheVariants.{Piece, Node}
use Rattle.tree.specs.declared.node.Node.{Node as NodeRecord}
use Rattle.shape.specs.declared.count.Path.{Path}
use Rattle.shape.specs.Children.{under, kids, leaves}

abbrev pub pieces_before : ℕ → List Child → ℕ
pieces_before c [] = 0
pieces_before c (Piece ∷ cs) = suc (pieces_before c cs)
pieces_before zero (Node ∷ cs) = 0
pieces_before (suc c) (Node ∷ cs) = pieces_before c cs

abbrev pub Adds : (Child → ℕ → Type 0) → List Child → ℕ → Type 0
Adds P [] n = n ≡ 0
Adds P (c ∷ cs) n = (m : ℕ) × (rest : ℕ) × P c m × Adds P cs rest × (n ≡ m + rest)

-- one node further to the front
abbrev pub widened : List Child → Path → Path
widened cs p =
    cond (nat_le (kids cs) p.trees)
    (record { pieces = p.pieces + leaves cs; trees = p.trees - kids cs + 1 })
    (record { pieces = p.pieces + pieces_before p.trees cs; trees = 0 })

abbrev pub path : List NodeRecord → Path
path [] = record { pieces = 0; trees = 0 }
path (n ∷ ns) = widened (under n) (path ns)

abbrev pub span : ℕ → List NodeRecord → ℕ
span k [] = 0
span zero (n ∷ ns) = 0
span (suc k) (n ∷ ns) = suc (span (kids (under n) + k) ns)
