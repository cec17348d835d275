-- What a file means, by its first line and the others.
use Rattle.std.proofs.Common.{◌≡◌, ℕ, ◌≤◌, true, List, ◌∷◌, map, length, Some, None, Ok, Option, le-ltb, refl}
use Rattle.std.specs.List.{list_all}
use Rattle.std.specs.Option.{ok_or, option_map}
use Rattle.rulefile.specs.declared.header.Header.{Header}
use Rattle.rulefile.specs.Loaded.{allowed, by_rows, loaded}
use Rattle.rulefile.specs.Parts.{parts, seven_names}
use Rattle.rulefile.specs.Reading.{row_of}

pub was_some : {X E : Type 0} (o : Option X) (e : E) (x : X) → ok_or o e ≡ Ok x → o ≡ Some x
was_some None e x h = absurd cc
was_some (Some y) e x h = cc

pub loaded_is : (file first lines : List ℕ) → length file ≤ 4096 → list_all allowed file ≡ true → parts 10 file ≡ first ∷ parts 10 lines
    → seven_names first ≡ true → loaded file ≡ by_rows (map (row_of first) (parts 10 lines))
loaded_is file first lines a b p s =
    let l = le-ltb 4096 (length file) a in
    rw (l, b, p, s) refl

-- the first line, if it is a header
abbrev pub named : Option Header → Option (List ℕ)
named o = option_map (λ h. h.names.now) o
