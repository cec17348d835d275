-- One, two or three of a kind.
--   listed   as a list, in their order
--   mapped   what a function gives for each of them
use Rattle.std.specs.Prelude.{List, [], ◌∷◌}
use Rattle.grammar.specs.declared.several.Several.{Several}
use Rattle.grammar.specs.declared.several.Several.TheVariants.{One, Two, Three}

abbrev pub listed : {X : Type 0} → Several X → List X
listed (One x) = x ∷ []
listed (Two x y) = x ∷ y ∷ []
listed (Three x y z) = x ∷ y ∷ z ∷ []

abbrev pub mapped : {X Y : Type 0} → (X → Y) → Several X → Several Y
mapped f (One x) = One (f x)
mapped f (Two x y) = Two (f x) (f y)
mapped f (Three x y z) = Three (f x) (f y) (f z)
