-- Values by their first byte and the rest, as slices have these.
use Rattle.std.proofs.Common.{◌≡◌, ℕ, ◌-◌, Bool, true, false, ◌&&◌, ◌||◌, List, [], ◌∷◌, length, get_or, take, drop, refl, sym, ap, ◌∙◌}
use Rattle.std.proofs.Common.{arith}
use Rattle.std.specs.Char.{is_ascii_uppercase, is_ascii_alphanumeric}
use Rattle.std.specs.List.{list_all}
use Rattle.std.proofs.lemmas.List.{take_rest}
use Rattle.std.proofs.lemmas.Bool.Decides.{nat_tests}
use Rattle.pieces.specs.Kinds.{letter, sign, goes_on, kind_of}
use Rattle.pieces.specs.declared.kind.Kind.TheVariants as kind
use Rattle.grammar.specs.Lawful.{every, one_sign}
use Rattle.rulefile.specs.Forms.{capitalized}
use Rattle.rulefile.specs.Spelled.{formed}

every_is : (test : ℕ → Bool) (s : List ℕ) → every test s ≡ list_all test s
every_is test [] = refl
every_is test (b ∷ s) = ap (λ v. test b && v) (every_is test s)

-- what begins with a letter is no sign
letter_first : (b : ℕ) → kind_of b ≡ kind.Letter → (letter b ≡ true) × (sign b ≡ false)
letter_first b e = (grind (arith, nat_tests), grind (arith, nat_tests))

or-false : (b : Bool) → (b || false) ≡ b
or-false true = refl
or-false false = refl

no_sign : (b : ℕ) (s : List ℕ) → sign b ≡ false → one_sign (b ∷ s) ≡ false
no_sign b [] h = h
no_sign b (c ∷ s) h = refl

pub name_begun : (s : List ℕ) → kind_of (get_or s 0 0) ≡ kind.Letter → list_all goes_on (take (length s - 1) (drop 1 s)) ≡ formed s
name_begun [] h = absurd cc
name_begun (b ∷ s) h =
    let l = letter_first b h in
    let n = no_sign b s l.1 in
    ap (λ (t : List ℕ). list_all goes_on t) (take_rest (b ∷ s) 1) ∙ sym (every_is goes_on s)
    ∙ rw (l.0, n) (sym (or-false (every goes_on s)))

pub capital_begun : (s : List ℕ) → is_ascii_uppercase (get_or s 0 0) ≡ true
    → list_all is_ascii_alphanumeric (take (length s - 1) (drop 1 s)) ≡ capitalized s
capital_begun [] h = absurd cc
capital_begun (b ∷ s) h =
    ap (λ (t : List ℕ). list_all is_ascii_alphanumeric t) (take_rest (b ∷ s) 1)
    ∙ sym (ap (λ v. v && list_all is_ascii_alphanumeric s) h)
