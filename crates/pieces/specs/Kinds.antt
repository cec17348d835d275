-- What bytes are.
--   letter, digit, sign   A to Z and a to z; 0 to 9; one of : ; = ( ) { } , + - * / < >
--   goes_on               what a name runs on through: letters, digits and underscores
--   quotable              what may stand inside a quote: bytes 32 to 126 but the quote byte 34
--   kind_of               what a byte begins
--   class_of              the class of a piece with these bytes, by the first one
use Rattle.std.specs.Prelude.{ℕ, Bool, cond, ◌&&◌, ◌||◌, List, [], ◌∷◌, Some, None, Option, ◌==◌, nat_le}
use Rattle.pieces.specs.declared.piece.Class.{Class}
use Rattle.pieces.specs.declared.piece.Class.TheVariants as class
use Rattle.pieces.specs.declared.kind.Kind.{Kind}
use Rattle.pieces.specs.declared.kind.Kind.TheVariants.{LineEnd, Separator, Letter, Digit, Quote, Sign, Other}

-- from low to high
abbrev pub within : ℕ → ℕ → ℕ → Bool
within low high b = nat_le low b && nat_le b high

abbrev pub letter : ℕ → Bool
letter b = within 65 90 b || within 97 122 b

abbrev pub digit : ℕ → Bool
digit b = within 48 57 b

-- ( ) * + , - are 40 to 45, / is 47, : ; < = > are 58 to 62, { is 123, } is 125
abbrev pub sign : ℕ → Bool
sign b = within 40 45 b || b == 47 || within 58 62 b || b == 123 || b == 125

abbrev pub goes_on : ℕ → Bool
goes_on b = letter b || digit b || b == 95

abbrev pub quotable : ℕ → Bool
quotable b = within 32 33 b || within 35 126 b

abbrev pub kind_of : ℕ → Kind
kind_of b =
    cond (b == 10) LineEnd
    (cond (b == 32) Separator
    (cond (letter b) Letter
    (cond (digit b) Digit
    (cond (b == 34) Quote
    (cond (sign b) Sign Other)))))

abbrev pub class_for : Kind → Option Class
class_for LineEnd = None
class_for Separator = None
class_for Letter = Some class.Name
class_for Digit = Some class.Number
class_for Quote = Some class.Quote
class_for Sign = Some class.Sign
class_for Other = None

abbrev pub class_of : List ℕ → Option Class
class_of [] = None
class_of (b ∷ bs) = class_for (kind_of b)
