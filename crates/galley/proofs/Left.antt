-- What an iterator has left of a list.
use Rattle.std.proofs.Common.{◌≡◌, ℕ, ◌+◌, ◌<◌, ◌≤◌, List, ◌∷◌, length, get_or, drop, sym, ap, ◌∙◌, arith}
use Rattle.std.proofs.lemmas.List.{drop_more, length-drop}

-- the next element, and the rest behind it
pub left_more : {A : Type 0} → (xs rest next : List A) (i : ℕ) (x : A) → rest ≡ drop i xs → rest ≡ x ∷ next
    → (i < length xs) × (x ≡ get_or xs i x) × (next ≡ drop (i + 1) xs)
left_more xs rest next i x at is =
    let few = length-drop i xs in
    let long = ap (λ ys. length ys) (sym at ∙ is) in
    let more : i < length xs = omega (arith, few, long) in
    let both = sym is ∙ at ∙ drop_more xs i x more in
    (more, ap (λ ys. get_or ys 0 x) both, ap (λ ys. drop 1 ys) both)

-- none is left
pub left-none : {A : Type 0} → (xs rest : List A) (i : ℕ) → rest ≡ drop i xs → length rest ≡ 0 → length xs ≤ i
left-none xs rest i at none =
    let few = length-drop i xs in
    let long = ap (λ ys. length ys) at in
    omega (arith, few, long, none)
