-- Numbers by first appearance.
--   place      the number of the first element that passes a test, and of the next one where none does
--   with_new   a list, with an element added at the end unless one like it is there
--   gathered   a list, with each of some elements added so in turn
--   Numbers    what becomes of a list when an element gets its number
use Rattle.std.specs.Prelude.{◌≡◌, ℕ, ◌<◌, Bool, cond, List, [], ◌∷◌, ◌++◌, length, Some, None, Option, nat_lt}
use Rattle.std.specs.List.{position_or_len}
use Rattle.std.specs.Str.{bytes_eq}

abbrev pub place : {X : Type 0} → (X → Bool) → List X → ℕ
place test xs = position_or_len test xs

abbrev pub with_new : {X : Type 0} → (X → X → Bool) → List X → X → List X
with_new like xs x = cond (nat_lt (place (like x) xs) (length xs)) xs (xs ++ x ∷ [])

abbrev pub gathered : {X : Type 0} → (X → X → Bool) → List X → List X → List X
gathered like known [] = known
gathered like known (x ∷ xs) = gathered like (with_new like known x) xs

-- x got the number r, and the list before became the one after; none if it then has more than limit elements
abbrev pub Numbers : {X : Type 0} → (X → X → Bool) → ℕ → List X → X → Option ℕ → List X → Type 0
Numbers like limit before x (Some k) after = (k ≡ place (like x) before) × (after ≡ with_new like before x)
Numbers like limit before x None after = limit < length (with_new like before x)

-- a test of a name: it has these bytes
abbrev pub same_name : List ℕ → List ℕ → Bool
same_name bytes name = bytes_eq name bytes
