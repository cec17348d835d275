-- Pieces with their places.
use Rattle.std.proofs.Common.{◌≡◌, ℕ, zero, suc, ◌+◌, ◌<◌, ◌≤◌, min, List, [], ◌∷◌, length, get_or, take, set, sym, refl, ap, add-one}
use Rattle.std.proofs.Common.{arith}
use Rattle.tree.specs.declared.piece.PieceRecord.{PieceRecord}
use Rattle.layout.specs.declared.placement.Placement.{Placement}
use Rattle.layout.specs.Standing.{stand, standing}

pub standing-none : (ps : List PieceRecord) → standing ps [] ≡ ps
standing-none [] = refl
standing-none (p ∷ ps) = refl

-- one place more
step : (ps : List PieceRecord) (qs : List Placement) (i : ℕ) (d : PieceRecord) (e : Placement) → i < length ps → i < length qs
    → set (standing ps (take i qs)) i (stand (get_or (standing ps (take i qs)) i d) (get_or qs i e)) ≡ standing ps (take (suc i) qs)
step [] qs i d e h k = absurd (omega arith)
step (p ∷ ps) [] i d e h k = absurd (omega arith)
step (p ∷ ps) (q ∷ qs) zero d e h k = ap (λ (xs : List PieceRecord). stand p q ∷ xs) (sym (standing-none ps))
step (p ∷ ps) (q ∷ qs) (suc i) d e h k = ap (λ (xs : List PieceRecord). stand p q ∷ xs) (step ps qs i d e (omega arith) (omega arith))

pub standing_more : (ps xs : List PieceRecord) (qs : List Placement) (i : ℕ) (d : PieceRecord) (q : Placement)
    → xs ≡ standing ps (take i qs) → i < length ps → i < length qs → q ≡ get_or qs i q
    → set xs i (stand (get_or xs i d) q) ≡ standing ps (take (i + 1) qs)
standing_more ps xs qs i d q is h k same =
    let more = step ps qs i d q h k in
    rw add-one (cc)

-- no place is left, or no piece
pub standing-all : (ps : List PieceRecord) (qs : List Placement) (i : ℕ) → min (length ps) (length qs) ≤ i → standing ps (take i qs) ≡
    standing ps qs
standing-all [] qs i h = refl
standing-all (p ∷ ps) [] zero h = refl
standing-all (p ∷ ps) [] (suc i) h = refl
standing-all (p ∷ ps) (q ∷ qs) zero h = absurd (omega arith)
standing-all (p ∷ ps) (q ∷ qs) (suc i) h = ap (λ (xs : List PieceRecord). stand p q ∷ xs) (standing-all ps qs i (omega arith))
