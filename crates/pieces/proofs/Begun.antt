-- The piece at the front of some bytes, by what the first byte begins.
use Rattle.std.proofs.Common.{◌≡◌, ℕ, ◌-◌, List, [], ◌∷◌, length, get_or, take, drop, Some, None, sym, subst, arith}
use Rattle.std.specs.List.{prefix_len}
use Rattle.std.proofs.lemmas.List.{take_rest}
use Rattle.pieces.specs.declared.piece.Class.{Class}
use Rattle.pieces.specs.declared.piece.Class.TheVariants as class
use Rattle.pieces.specs.Kinds.{kind_of, class_for, digit, goes_on}
use Rattle.pieces.specs.Pieces.{Forms}
use Rattle.pieces.specs.Lexeme.{Fronts, Front, Quoted}
use Rattle.pieces.proofs.Bytes.{begins_letter, begins_digit, begins_quote, first_tells}
use Rattle.pieces.proofs.Fronts.{name-front, number-front}

pub name_begun : (s : List ℕ) (n : ℕ) → class_for (kind_of (get_or s 0 0)) ≡ Some class.Name → n ≡ prefix_len goes_on s
    → Fronts s class.Name n
name_begun [] n e is = let z : ◌≡◌ {A = ℕ} 0 1 = cc in absurd (omega arith)
name_begun (b ∷ s) n e is = rw is (name-front b s (begins_letter b e))

pub number_begun : (s : List ℕ) (n : ℕ) → class_for (kind_of (get_or s 0 0)) ≡ Some class.Number → n ≡ prefix_len digit s
    → Fronts s class.Number n
number_begun [] n e is = let z : ◌≡◌ {A = ℕ} 0 1 = cc in absurd (omega arith)
number_begun (b ∷ s) n e is = rw is (number-front b s (begins_digit b e))

-- what begins with a quote byte that no other closes is no piece
unclosed-front : (s : List ℕ) → Quoted s None → Front (34 ∷ s) None
unclosed-front s none = λ c w rest e f.
    let t = first_tells c w rest s 34 e f in
    let h : class.Quote ≡ c = cc in
    none w rest e (subst (λ (k : Class). Forms k w rest) (sym h) f)

pub quote_left : (s : List ℕ) → class_for (kind_of (get_or s 0 0)) ≡ Some class.Quote
    → Quoted (take (length s - 1) (drop 1 s)) None → Front s None
quote_left [] e q = let z : ◌≡◌ {A = ℕ} 0 1 = cc in absurd (omega arith)
quote_left (b ∷ s) e q =
    let h = begins_quote b e in
    let t = take_rest (b ∷ s) 1 in
    rw h (unclosed-front s (subst (λ (xs : List ℕ). Quoted xs None) t q))
