-- Two readings of a text up to where nothing more can be read are the same.
use Rattle.std.proofs.Common.{◌≡◌, ℕ, List, [], ◌∷◌, length, sym, refl, ◌∙◌, subst, arith}
use Rattle.pieces.specs.Pieces.{Place, Found, Reads, NoPiece, Cutting, Cut, right}
use Rattle.pieces.proofs.Unique.{Ends, same-piece, no_blank, no_line, no_space, no_piece}

pub record Same (ps : List Found) (q : Place) (t : List ℕ) (qs : List Found) (r : Place) (u : List ℕ) : Type 0 where
  pub pieces : ps ≡ qs
  pub place : q ≡ r
  pub rest : t ≡ u

-- the same rest, read on from another name for it
moved : {p q : Place} {s t u : List ℕ} {ps : List Found} → s ≡ t → Reads p s ps q u → Reads p t ps q u
moved {p} {q} {s} {t} {u} {ps} e r = subst (λ (x : List ℕ). Reads p x ps q u) e r

pub one : {p q r : Place} {s t u : List ℕ} {ps qs : List Found} → Reads p s ps q t → Ends t → Reads p s qs r u → Ends u → Same ps q t qs r u
one Reads.here et Reads.here eu = record { pieces = refl; place = refl; rest = refl }
one Reads.here et (Reads.line e h) eu = absurd (no_line _ _ e et)
one Reads.here et (Reads.space e h) eu = absurd (no_space _ _ e et)
one Reads.here et (Reads.piece e f h) eu = absurd (no_piece _ _ _ _ e f et)
one (Reads.line d g) et Reads.here eu = absurd (no_line _ _ d eu)
one (Reads.line {s = v} d g) et (Reads.line {s = w} e h) eu = let k : w ≡ v = cc in one g et (moved k h) eu
one (Reads.line {s = v} d g) et (Reads.space {s = w} e h) eu = let k : ◌≡◌ {A = ℕ} 10 32 = cc in absurd (omega arith)
one (Reads.line {s = v} d g) et (Reads.piece e f h) eu = absurd (no_blank _ _ _ v 10 refl (sym d ∙ e) f)
one (Reads.space d g) et Reads.here eu = absurd (no_space _ _ d eu)
one (Reads.space {s = v} d g) et (Reads.line {s = w} e h) eu = let k : ◌≡◌ {A = ℕ} 10 32 = cc in absurd (omega arith)
one (Reads.space {s = v} d g) et (Reads.space {s = w} e h) eu = let k : w ≡ v = cc in one g et (moved k h) eu
one (Reads.space {s = v} d g) et (Reads.piece e f h) eu = absurd (no_blank _ _ _ v 32 refl (sym d ∙ e) f)
one (Reads.piece d f g) et Reads.here eu = absurd (no_piece _ _ _ _ d f eu)
one (Reads.piece d f g) et (Reads.line {s = w} e h) eu = absurd (no_blank _ _ _ w 10 refl (sym e ∙ d) f)
one (Reads.piece d f g) et (Reads.space {s = w} e h) eu = absurd (no_blank _ _ _ w 32 refl (sym e ∙ d) f)
one {p} (Reads.piece {w = v} {s = s} {c = c} d f g) et (Reads.piece {q = r} {w = w} {s = t} {rest = u} {ps = qs} {c = b} e k h) eu =
    let same = same-piece c b v w s t (sym d ∙ e) f k in
    let x = same.0 in
    let y = same.1 in
    let long : length w ≡ length v = cc in
    let h' : Reads (right (length v) p) s qs r u = moved (sym same.2) (subst (λ (n : ℕ). Reads (right n p) t qs r u) long h) in
    let rest = one g et h' eu in
    let z = rest.pieces in
    record { pieces = cc; place = rest.place; rest = rest.rest }

ends : (t : List ℕ) → NoPiece t → Ends t
ends [] stuck = absurd stuck
ends (b ∷ t) stuck = stuck

-- a text is cut into one list of pieces, or is stuck at one place
pub cut-one : (text : List ℕ) (a b : Cutting) → Cut text a → Cut text b → a ≡ b
cut-one text (Cutting.into ps) (Cutting.into qs) (q, g) (r, h) = let s = (one g tt h tt).pieces in cc
cut-one text (Cutting.into ps) (Cutting.stuck r) (q, g) (qs, u, h, n) = absurd (subst NoPiece (sym (one g tt h (ends u n)).rest) n)
cut-one text (Cutting.stuck q) (Cutting.into qs) (ps, t, g, m) (r, h) = absurd (subst NoPiece (one g (ends t m) h tt).rest m)
cut-one text (Cutting.stuck q) (Cutting.stuck r) (ps, t, g, m) (qs, u, h, n) = let s = (one g (ends t m) h (ends u n)).place in cc
