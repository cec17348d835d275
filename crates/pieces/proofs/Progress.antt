-- Reading on along a text.
use Rattle.std.proofs.Common.{◌≡◌, ℕ, ◌+◌, ◌-◌, ◌<◌, ◌≤◌, List, [], ◌∷◌, ◌++◌, length, get_or, take, drop, Some, None, refl, ap, ◌∙◌, arith}
use Rattle.std.proofs.lemmas.List.{drop_more, drop_all, take_rest, get_or-drop, length-drop}
use Rattle.faults.specs.declared.fault.Position.{Position}
use Rattle.pieces.specs.declared.kind.Kind.{Kind}
use Rattle.pieces.specs.declared.kind.Kind.TheVariants.{LineEnd, Separator, Letter, Digit, Quote, Sign, Other}
use Rattle.pieces.specs.Kinds.{kind_of}
use Rattle.pieces.specs.Pieces.{Place, Found, Reads}
use Rattle.pieces.specs.Reader.{position_behind, Pause}
use Rattle.pieces.proofs.Bytes.{begins_line, begins_space}

-- one stretch behind another
pub join : {p q r : Place} {s t u : List ℕ} {ps qs : List Found} → Reads p s ps q t → Reads q t qs r u → Reads p s (ps ++ qs) r u
join Reads.here k = k
join (Reads.line e h) k = Reads.line e (join h k)
join (Reads.space e h) k = Reads.space e (join h k)
join (Reads.piece e f h) k = Reads.piece e f (join h k)

-- the place of that offset and position
abbrev pub placed : ℕ → Position → Place
placed i p = record { offset = i; line = p.line; column = p.column }

module _ (text : List ℕ) (i : ℕ) (inside : i < length text) where
  -- the byte at i, and those behind it
  next-is : drop i text ≡ get_or text i 0 ∷ drop (i + 1) text
  next-is = drop_more text i 0 inside

  over : (k : Kind) (p q : Position) → kind_of (get_or text i 0) ≡ k → Some q ≡ position_behind k p
      → Reads (placed i p) (drop i text) [] (placed (i + 1) q) (drop (i + 1) text)
  over LineEnd p q is e =
      let b = begins_line (get_or text i 0) is in
      let h : q ≡ record { line = p.line + 1; column = 0 } = cc in
      rw h (Reads.line (next-is ∙ ap (λ (x : ℕ). x ∷ drop (i + 1) text) b) Reads.here)
  over Separator p q is e =
      let b = begins_space (get_or text i 0) is in
      let h : q ≡ record { line = p.line; column = p.column + 1 } = cc in
      rw h (Reads.space (next-is ∙ ap (λ (x : ℕ). x ∷ drop (i + 1) text) b) Reads.here)
  over Letter p q is e = let z : ◌≡◌ {A = ℕ} 0 1 = cc in absurd (omega arith)
  over Digit p q is e = let z : ◌≡◌ {A = ℕ} 0 1 = cc in absurd (omega arith)
  over Quote p q is e = let z : ◌≡◌ {A = ℕ} 0 1 = cc in absurd (omega arith)
  over Sign p q is e = let z : ◌≡◌ {A = ℕ} 0 1 = cc in absurd (omega arith)
  over Other p q is e = let z : ◌≡◌ {A = ℕ} 0 1 = cc in absurd (omega arith)

  -- one space or line end further
  pub past_blank : {from : Place} {s : List ℕ} (p q : Position) → Some q ≡ position_behind (kind_of (get_or text i 0)) p
      → Reads from s [] (placed i p) (drop i text) → Reads from s [] (placed (i + 1) q) (drop (i + 1) text)
  past_blank p q e r = join r (over (kind_of (get_or text i 0)) p q refl e)

  -- where no space and no line end follows
  pub paused : (p : Position) → None ≡ position_behind (kind_of (get_or text i 0)) p → Pause (drop i text)
  paused p e =
      rw next-is (
        (λ h. let f : None ≡ position_behind (kind_of 10) p = rw h at e in let z : ◌≡◌ {A = ℕ} 0 1 = cc in omega arith),
        (λ h. let f : None ≡ position_behind (kind_of 32) p = rw h at e in let z : ◌≡◌ {A = ℕ} 0 1 = cc in omega arith),
      )

pub ended : (text : List ℕ) (i : ℕ) → length text ≤ i → Pause (drop i text)
ended text i h = rw (drop_all i text h) tt

-- the bytes that are left of a text from o on
abbrev pub left : List ℕ → ℕ → List ℕ
left text o = take (length text - o) (drop o text)

module _ (text : List ℕ) (o i j : ℕ) (at : j ≡ o + i) where
  -- one of them is a byte of the text
  pub left_at : get_or (left text o) i 0 ≡ get_or text j 0
  left_at = rw (take_rest text o, at) (get_or-drop o text i 0)

  pub left_inside : i < length (left text o) → j < length text
  left_inside h =
      let e : length (left text o) ≡ length (drop o text) = ap (λ (xs : List ℕ). length xs) (take_rest text o) in
      omega (arith, h, e, length-drop o text)

  pub left_past : o ≤ length text → length (left text o) ≤ i → length text ≤ j
  left_past w h =
      let e : length (left text o) ≡ length (drop o text) = ap (λ (xs : List ℕ). length xs) (take_rest text o) in
      omega (arith, h, e, length-drop o text)
