-- One step of the reader, from what it found.
use Rattle.std.proofs.Common.{◌≡◌, ℕ, ◌+◌, ◌-◌, List, [], ◌∷◌, length, take, drop, sym, ap, ◌∙◌, subst}
use Rattle.std.proofs.lemmas.List.{take-append-drop, drop-drop, take_rest, length-take-le}
use Rattle.faults.specs.declared.fault.Position.{Position}
use Rattle.pieces.specs.declared.piece.Class.{Class}
use Rattle.pieces.specs.Pieces.{Place, Found, Reads, right}
use Rattle.pieces.specs.Lexeme.{Fronts}
use Rattle.pieces.proofs.Progress.{placed, join}

-- the one piece with these bytes at i
abbrev just : ℕ → Position → Class → List ℕ → List Found
just i p c w = record { place = placed i p; class = c; bytes = w } ∷ []

-- a piece of n bytes at i; its bytes may be taken by another name for n
pub one_piece : {from : Place} {s : List ℕ} (text : List ℕ) (i n k : ℕ) (p : Position) (c : Class) → k ≡ n
    → Fronts (take (length text - i) (drop i text)) c n
    → Reads from s [] (placed i p) (drop i text)
    → Reads from s (just i p c (take k (take (length text - i) (drop i text)))) (right n (placed i p)) (drop (i + n) text)
one_piece {from} {s} text i n k p c same found before =
    let at = placed i p in
    let all = drop i text in
    let whole : take (length text - i) all ≡ all = take_rest text i in
    let f : Fronts all c n = subst (λ (t : List ℕ). Fronts t c n) whole found in
    let long : length (take n all) ≡ n = length-take-le n all f.within in
    let rest : drop n all ≡ drop (i + n) text = drop-drop n i text in
    let bytes : take n all ≡ take k (take (length text - i) all)
    = ap (λ (t : List ℕ). take n t) (sym whole) ∙ ap (λ (m : ℕ). take m (take (length text - i) all)) (sym same) in
    let one : Reads at all (just i p c (take n all)) (right (length (take n all)) at) (drop n all)
    = Reads.piece (sym (take-append-drop n all)) f.forms Reads.here in
    let two = subst (λ (t : List ℕ). Reads at all (just i p c (take n all)) (right (length (take n all)) at) t) rest one in
    let three = subst (λ (m : ℕ). Reads at all (just i p c (take n all)) (right m at) (drop (i + n) text)) long two in
    join before (subst (λ (w : List ℕ). Reads at all (just i p c w) (right n at) (drop (i + n) text)) bytes three)
