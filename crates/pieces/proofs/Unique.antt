-- A text is cut in one way only.
use Rattle.std.proofs.Common.{◌≡◌, ℕ, List, [], ◌∷◌, ◌++◌, None, sym, refl, ap, ◌∙◌, subst, arith}
use Rattle.std.proofs.lemmas.List.{append_assoc}
use Rattle.pieces.specs.declared.piece.Class.{Class}
use Rattle.pieces.specs.declared.piece.Class.TheVariants as class
use Rattle.pieces.specs.Kinds.{kind_of, class_for, digit, goes_on, quotable}
use Rattle.pieces.specs.Pieces.{Forms, NoPiece}
use Rattle.pieces.proofs.Bytes.{first_tells}
use Rattle.pieces.proofs.Fronts.{run_one}

-- two pieces of one class at the front of the same bytes are the same
same_class : (c : Class) (v w s t : List ℕ) → v ++ s ≡ w ++ t → Forms c v s → Forms c w t → (v ≡ w) × (s ≡ t)
same_class class.Name v w s t e f g = run_one goes_on v s w t f.1 f.2 g.1 g.2 e
same_class class.Number v w s t e f g = run_one digit v s w t f.1 f.2 g.1 g.2 e
same_class class.Quote v w s t e (i, is, pi) (j, js, pj) =
    let a = append_assoc i (34 ∷ []) s in
    let b = append_assoc j (34 ∷ []) t in
    let h : i ++ 34 ∷ s ≡ j ++ 34 ∷ t = cc in
    let r = run_one quotable i (34 ∷ s) j (34 ∷ t) pi refl pj refl h in
    let x = r.0 in
    let y = r.1 in
    (cc, cc)
same_class class.Sign [] w s t e f g = absurd f.0
same_class class.Sign (x ∷ v) [] s t e f g = absurd g.0
same_class class.Sign (x ∷ []) (y ∷ []) s t e f g = (cc, cc)
same_class class.Sign (x ∷ []) (y ∷ z ∷ w) s t e f g = absurd (omega (arith, g.1))
same_class class.Sign (x ∷ z ∷ v) (y ∷ w) s t e f g = absurd (omega (arith, f.1))

-- a piece has a first byte
pub some_byte : (c : Class) (w s : List ℕ) → Forms c w s → (b : ℕ) × (v : List ℕ) × (w ≡ b ∷ v)
some_byte class.Name [] s f = absurd f.0
some_byte class.Name (b ∷ v) s f = (b, v, refl)
some_byte class.Number [] s f = absurd f.0
some_byte class.Number (b ∷ v) s f = (b, v, refl)
some_byte class.Quote w s (i, is, p) = (34, i ++ 34 ∷ [], is)
some_byte class.Sign [] s f = absurd f.0
some_byte class.Sign (b ∷ v) s f = (b, v, refl)

-- two pieces at the front of the same bytes are the same
pub same-piece : (c d : Class) (v w s t : List ℕ) → v ++ s ≡ w ++ t → Forms c v s → Forms d w t → (c ≡ d) × (v ≡ w) × (s ≡ t)
same-piece c d v w s t e f g =
    let x = some_byte c v s f in
    let h : x.0 ∷ (x.1 ++ s) ≡ v ++ s = ap (λ (y : List ℕ). y ++ s) (sym x.2) in
    let p = first_tells c v s (x.1 ++ s) x.0 h f in
    let q = first_tells d w t (x.1 ++ s) x.0 (h ∙ e) g in
    let same : c ≡ d = cc in
    let r = same_class c v w s t e f (subst (λ (k : Class). Forms k w t) (sym same) g) in
    (same, r.0, r.1)

-- no piece begins with a space or a line end
pub no_blank : (c : Class) (w s t : List ℕ) (b : ℕ) → class_for (kind_of b) ≡ None → b ∷ t ≡ w ++ s → Forms c w s → ⊥
no_blank c w s t b none e f =
    let p = first_tells c w s t b e f in
    let z : ◌≡◌ {A = ℕ} 0 1 = cc in
    omega arith

-- nothing more can be read
abbrev pub Ends : List ℕ → Type 0
Ends [] = Unit {0}
Ends (b ∷ s) = NoPiece (b ∷ s)

-- where nothing more can be read, there is no next step
pub no_line : (t s : List ℕ) → t ≡ 10 ∷ s → Ends t → ⊥
no_line [] s e ends = let z : ◌≡◌ {A = ℕ} 0 1 = cc in omega arith
no_line (b ∷ t) s e ends = ends.0 (cc)

pub no_space : (t s : List ℕ) → t ≡ 32 ∷ s → Ends t → ⊥
no_space [] s e ends = let z : ◌≡◌ {A = ℕ} 0 1 = cc in omega arith
no_space (b ∷ t) s e ends = ends.1 (cc)

pub no_piece : (c : Class) (w s t : List ℕ) → t ≡ w ++ s → Forms c w s → Ends t → ⊥
no_piece c w s [] e f ends =
    let x = some_byte c w s f in
    let k : [] ≡ x.0 ∷ (x.1 ++ s) = e ∙ ap (λ (y : List ℕ). y ++ s) x.2 in
    let z : ◌≡◌ {A = ℕ} 0 1 = cc in
    omega arith
no_piece c w s (b ∷ t) e f ends = ends.2 c w s e f
