-- The parts of bytes.
--   parts          what ends at a separator, or at the end unless nothing is left there
--   seven_values   a line of seven values with single spaces: seven parts, none empty, and no space at the end
--   under          the value in a line that stands under a name of the first line; nothing if there is none
--   seven_names    the first line: seven values, among them each of the seven names
use Rattle.std.specs.Prelude.{◌≡◌, ℕ, ◌-◌, ◌<◌, Bool, cond, not, ◌&&◌, List, [], ◌∷◌, length, codes, ◌==◌, slice_index, find}
use Rattle.std.specs.List.{list_all, list_any, zip}
use Rattle.std.specs.Option.{option_map_or}
use Rattle.std.specs.Str.{bytes_eq}

-- one byte more at the front of the first part
abbrev pub onto : ℕ → List (List ℕ) → List (List ℕ)
onto b [] = (b ∷ []) ∷ []
onto b (p ∷ ps) = (b ∷ p) ∷ ps

abbrev pub parts : ℕ → List ℕ → List (List ℕ)
parts separator [] = []
parts separator (b ∷ s) = cond (b == separator) ([] ∷ parts separator s) (onto b (parts separator s))

-- some bytes have that first part, and their other parts are those of what stands behind it
abbrev pub Splits : ℕ → List ℕ → List ℕ → List ℕ → Type 0
Splits separator bytes part behind =
    (parts separator bytes ≡ part ∷ parts separator behind) × (length behind < length bytes)

abbrev pub filled : List ℕ → Bool
filled s = not (length s == 0)

abbrev pub ends_with : ℕ → List ℕ → Bool
ends_with b s = slice_index s (length s - 1) == b

abbrev pub values : List ℕ → List (List ℕ)
values line = parts 32 line

abbrev pub seven_values : List ℕ → Bool
seven_values line = list_all filled (values line) && length (values line) == 7 && not (ends_with 32 line)

-- that name is among these
abbrev pub among : List (List ℕ) → List ℕ → Bool
among ns name = list_any (λ n. bytes_eq n name) ns

abbrev pub names : List (List ℕ)
names = codes "left" ∷ codes "sym1" ∷ codes "rel1" ∷ codes "sym2" ∷ codes "rel2" ∷ codes "sym3" ∷ codes "rel3" ∷ []

abbrev pub seven_names : List ℕ → Bool
seven_names line = seven_values line && list_all (among (values line)) names

abbrev pub under : List ℕ → List (List ℕ) → List (List ℕ) → List ℕ
under name ns vs = option_map_or (λ p. p.1) (find (λ p. bytes_eq p.0 name) (zip ns vs)) []
