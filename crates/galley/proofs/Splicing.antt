-- A memory after its tail was moved and new elements were written into the room before it.
use Rattle.std.proofs.Common.{◌≡◌, ℕ, ◌+◌, ◌-◌, ◌≤◌, List, ◌++◌, length, take, drop, sym, refl, ap, ◌∙◌, arith, take-add}
use lib.Seq.{paste}
use borrow.Rule.Slice.PartMut.{put_mid}
use Rattle.std.proofs.lemmas.List.{append_assoc, drop_at, drop-take, length-drop, length-take, length-take-le, take-append-le, take_at}
use Rattle.std.proofs.lemmas.List.{take-take}
use Rattle.std.proofs.lemmas.Slice.{take-put_mid, drop-put_mid}
use Rattle.std.proofs.lemmas.List.Edits.{length-paste}
use Rattle.galley.specs.Parts.{spliced}

-- m before, moved after the elements from at + gone up to used went behind room for new
module _ {X : Type 0} (m moved new : List X) (used at gone k : ℕ) (within : at + gone ≤ used) (holds : used ≤ length m)
    (fits : used - gone + length new ≤ length m) (room : length new ≡ k)
    (is : moved ≡ paste m (at + length new) (drop (at + gone) m) (used - (at + gone))) where
  tail_is : take (used - (at + gone)) (drop (at + gone) m) ≡ drop (at + gone) (take used m)
  tail_is =
      let e : used ≡ (at + gone) + (used - (at + gone)) = omega arith in
      sym (ap (λ (n : ℕ). drop (at + gone) (take n m)) e ∙ drop-take (at + gone) (used - (at + gone)) m)

  long : length moved ≡ length m
  long =
      let a : (at + length new) + (used - (at + gone)) ≤ length m = omega arith in
      let b : used - (at + gone) ≤ length (drop (at + gone) m) = simp length-drop (omega arith) in
      rw is (length-paste m (at + length new) (drop (at + gone) m) (used - (at + gone)) a b)

  head_is : take at moved ≡ take at (take used m)
  head_is =
      let l : length (take (at + length new) m) ≡ at + length new = length-take-le (at + length new) m (omega arith) in
      rw (is, append_assoc)
      (take-append-le at (take (at + length new) m)
      (take (used - (at + gone)) (drop (at + gone) m) ++ drop (at + length new + (used - (at + gone))) m) (omega arith)
      ∙ take-take at (at + length new) m (omega arith) ∙ sym (take-take at used m (omega arith)))

  back_is : take (used - (at + gone)) (drop (at + length new) moved) ≡ take (used - (at + gone)) (drop (at + gone) m)
  back_is =
      let l : length (take (at + length new) m) ≡ at + length new = length-take-le (at + length new) m (omega arith) in
      let t : length (take (used - (at + gone)) (drop (at + gone) m)) ≡ used - (at + gone)
      = simp (length-take, length-drop) (omega arith) in
      rw (is, append_assoc, drop_at)
      (take_at (take (used - (at + gone)) (drop (at + gone) m)) (drop (at + length new + (used - (at + gone))) m)
      (used - (at + gone)) t)

  pub exchanged : (wrote : List X) → wrote ≡ new
      → take (used - gone + length new) (put_mid at k moved wrote) ≡ spliced (take used m) at gone new
  exchanged wrote same =
      let e : used - gone + length new ≡ (at + length new) + (used - (at + gone)) = omega arith in
      let l = long in
      let q : at ≤ length moved = omega arith in
      let p : at + k ≤ at + length new = omega arith in
      let f = take-put_mid at k moved new (at + length new) refl q in
      let b = drop-put_mid at k moved new (at + length new) p q room in
      let w = take-add (at + length new) (used - (at + gone)) (put_mid at k moved new) in
      let h = head_is in
      let z = back_is in
      let t = tail_is in
      let a = append_assoc (take at (take used m)) new (drop (at + gone) (take used m)) in
      cc
