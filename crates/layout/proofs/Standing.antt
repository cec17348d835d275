-- Pieces with their places are as many, and as long, as they were.
use Rattle.std.proofs.Common.{◌≡◌, ℕ, suc, ◌+◌, max, List, [], ◌∷◌, length, refl, ap}
use Rattle.tree.specs.declared.piece.PieceRecord.{PieceRecord}
use Rattle.tree.specs.Pieces.{total, longest}
use Rattle.layout.specs.declared.placement.Placement.{Placement}
use Rattle.layout.specs.Standing.{standing}

pub length-standing : (ps : List PieceRecord) (qs : List Placement) → length (standing ps qs) ≡ length ps
length-standing [] qs = refl
length-standing (p ∷ ps) [] = refl
length-standing (p ∷ ps) (q ∷ qs) = ap suc (length-standing ps qs)

pub total-standing : (ps : List PieceRecord) (qs : List Placement) → total (standing ps qs) ≡ total ps
total-standing [] qs = refl
total-standing (p ∷ ps) [] = refl
total-standing (p ∷ ps) (q ∷ qs) = ap (λ (n : ℕ). p.length + n) (total-standing ps qs)

pub longest-standing : (ps : List PieceRecord) (qs : List Placement) → longest (standing ps qs) ≡ longest ps
longest-standing [] qs = refl
longest-standing (p ∷ ps) [] = refl
longest-standing (p ∷ ps) (q ∷ qs) = ap (λ (n : ℕ). max p.length n) (longest-standing ps qs)
