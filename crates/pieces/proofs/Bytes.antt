-- What a byte begins, and what it then is.
use Rattle.std.proofs.Common.{◌≡◌, ℕ, true, List, [], ◌∷◌, ◌++◌, Some, refl, ap, arith}
use Rattle.std.proofs.lemmas.Bool.Decides.{nat_tests}
use Rattle.pieces.specs.declared.piece.Class.{Class}
use Rattle.pieces.specs.declared.piece.Class.TheVariants as class
use Rattle.pieces.specs.declared.kind.Kind.TheVariants.{LineEnd, Separator, Letter, Digit, Sign}
use Rattle.pieces.specs.Kinds.{kind_of, class_for, letter, digit, sign, goes_on}
use Rattle.pieces.specs.Pieces.{Forms}

pub begins_line : (b : ℕ) → kind_of b ≡ LineEnd → b ≡ 10
begins_line b e = grind (arith, nat_tests)

pub begins_space : (b : ℕ) → kind_of b ≡ Separator → b ≡ 32
begins_space b e = grind (arith, nat_tests)

pub begins_letter : (b : ℕ) → class_for (kind_of b) ≡ Some class.Name → letter b ≡ true
begins_letter b e = grind (arith, nat_tests)

pub begins_digit : (b : ℕ) → class_for (kind_of b) ≡ Some class.Number → digit b ≡ true
begins_digit b e = grind (arith, nat_tests)

pub begins_quote : (b : ℕ) → class_for (kind_of b) ≡ Some class.Quote → b ≡ 34
begins_quote b e = grind (arith, nat_tests)

pub letter_begins : (b : ℕ) → letter b ≡ true → kind_of b ≡ Letter
letter_begins b e = grind (arith, nat_tests)

pub digit_begins : (b : ℕ) → digit b ≡ true → kind_of b ≡ Digit
digit_begins b e = grind (arith, nat_tests)

pub sign_begins : (b : ℕ) → sign b ≡ true → kind_of b ≡ Sign
sign_begins b e = grind (arith, nat_tests)

pub letter-goes-on : (b : ℕ) → letter b ≡ true → goes_on b ≡ true
letter-goes-on b e = grind (arith, nat_tests)

-- the first byte of a piece tells its class
pub first_tells : (c : Class) (w rest s : List ℕ) (b : ℕ) → b ∷ s ≡ w ++ rest → Forms c w rest → class_for (kind_of b) ≡ Some c
first_tells class.Name [] rest s b e f = absurd f.0
first_tells class.Name (x ∷ w) rest s b e f = let h : b ≡ x = cc in rw h (ap class_for (letter_begins x f.0))
first_tells class.Number [] rest s b e f = absurd f.0
first_tells class.Number (x ∷ w) rest s b e f = let h : b ≡ x = cc in rw h (ap class_for (digit_begins x f.0))
first_tells class.Quote w rest s b e (inside, is, p) = let h : b ≡ 34 = cc in rw h refl
first_tells class.Sign [] rest s b e f = absurd f.0
first_tells class.Sign (x ∷ w) rest s b e f = let h : b ≡ x = cc in rw h (ap class_for (sign_begins x f.0))
