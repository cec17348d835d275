-- Bytes that are one piece where nothing follows.
--   every        each byte passes the test
--   one_name     a letter and what a name runs on through
--   one_number   digits
--   one_quote    a quote byte, what a quote may hold, and a quote byte
--   one_sign     one sign byte
--   one_piece    one of these
use Rattle.std.specs.Prelude.{ℕ, Bool, true, false, ◌&&◌, ◌||◌, List, [], ◌∷◌, ◌==◌}
use Rattle.pieces.specs.Kinds.{letter, digit, sign, goes_on, quotable}

abbrev pub every : (ℕ → Bool) → List ℕ → Bool
every test [] = true
every test (b ∷ bs) = test b && every test bs

abbrev pub one_name : List ℕ → Bool
one_name [] = false
one_name (b ∷ bs) = letter b && every goes_on bs

abbrev pub one_number : List ℕ → Bool
one_number [] = false
one_number (b ∷ bs) = digit b && every digit bs

-- bytes that a quote may hold, and one quote byte behind them
abbrev pub quote_rest : List ℕ → Bool
quote_rest [] = false
quote_rest (b ∷ []) = b == 34
quote_rest (b ∷ c ∷ bs) = quotable b && quote_rest (c ∷ bs)

abbrev pub one_quote : List ℕ → Bool
one_quote [] = false
one_quote (b ∷ bs) = b == 34 && quote_rest bs

abbrev pub one_sign : List ℕ → Bool
one_sign [] = false
one_sign (b ∷ []) = sign b
one_sign (b ∷ c ∷ bs) = false

abbrev pub one_piece : List ℕ → Bool
one_piece bs = one_name bs || one_number bs || one_quote bs || one_sign bs
