-- Quotes at the front of some bytes.
use Rattle.std.proofs.Common.{◌≡◌, ℕ, suc, ◌+◌, ◌<◌, List, [], ◌∷◌, ◌++◌, length, get_or, take, drop, sym, refl, ap, ◌∙◌, arith}
use Rattle.std.specs.List.{prefix_len}
use Rattle.std.proofs.lemmas.List.{take-append-drop, take_more, append_assoc, length-drop, get_or-drop}
use Rattle.pieces.specs.declared.piece.Class.TheVariants.{Quote}
use Rattle.pieces.specs.Kinds.{quotable}
use Rattle.pieces.specs.Pieces.{Passes, Stops, Forms}
use Rattle.pieces.specs.Lexeme.{Fronts}
use Rattle.pieces.proofs.Fronts.{run_passes, run_stops, run_one}

module _ (t : List ℕ) (n : ℕ) (run : n ≡ prefix_len quotable t) where
  -- a quote byte behind the run closes the quote
  pub closed : n < length t → get_or t n 0 ≡ 34 → Fronts (34 ∷ t) Quote (n + 2)
  closed h e =
      let two : n + 2 ≡ suc (n + 1) = omega arith in
      let more : take (n + 1) t ≡ take n t ++ 34 ∷ [] = take_more t n 0 h ∙ ap (λ (b : ℕ). take n t ++ b ∷ []) e in
      let inside : Passes quotable (take n t) = rw run (run_passes quotable t) in
      record { some = omega arith; within = omega arith; forms = rw two (take n t, ap (λ (xs : List ℕ). 34 ∷ xs) more, inside) }

  -- without one no quote begins there
  pub unclosed : (n < length t → get_or t n 0 ≡ 34 → ⊥) → (w rest : List ℕ) → 34 ∷ t ≡ w ++ rest → Forms Quote w rest → ⊥
  unclosed ends w rest e (inside, is, passes) =
      let s : t ≡ (inside ++ 34 ∷ []) ++ rest = cc in
      let a : t ≡ inside ++ 34 ∷ rest = s ∙ append_assoc inside (34 ∷ []) rest in
      let b : take n t ++ drop n t ≡ inside ++ 34 ∷ rest = take-append-drop n t ∙ a in
      let p : Passes quotable (take n t) = rw run (run_passes quotable t) in
      let q : Stops quotable (drop n t) = rw run (run_stops quotable t) in
      let r = (run_one quotable (take n t) (drop n t) inside (34 ∷ rest) p q passes refl b).1 in
      let l = ap (λ (xs : List ℕ). length xs) r in
      let lt : n < length t = omega (arith, l, length-drop n t) in
      let g : get_or (drop n t) 0 0 ≡ 34 = ap (λ (xs : List ℕ). get_or xs 0 0) r in
      let h : get_or t (n + 0) 0 ≡ 34 = sym (get_or-drop n t 0 0) ∙ g in
      let z : n + 0 ≡ n = omega arith in
      ends lt (rw z at h)
