-- A node that waits has an item to come, so many nodes have many.
use Rattle.std.proofs.Common.{◌≡◌, ℕ, suc, ◌+◌, ◌<◌, ◌≤◌, List, [], ◌∷◌, ◌++◌, length, reverse, Some, Ok, Err, Result, sym, refl, ap, ◌∙◌}
use Rattle.std.proofs.Common.{subst, arith}
use Rattle.std.specs.List.{flat_map}
use Rattle.std.specs.Result.{MatchResult, IsErrAnd, OnOk, OnErr}
use Rattle.std.proofs.lemmas.List.{length-append, length-reverse, reverse-append}
use Rattle.std.proofs.lemmas.Result.{err_from_is_err_and}
use Rattle.faults.specs.declared.fault.Fault.{Fault}
use Rattle.faults.specs.declared.fault.Fault.TheVariants.{GrammarMismatch}
use Rattle.arrayvec.specs.ArrayVec.{ArrayVec}
use Rattle.grammar.specs.declared.rule.Item.{Item}
use Rattle.grammar.specs.Several.{listed}
use Rattle.tree.specs.declared.frame.Frame.{Frame}
use Rattle.tree.specs.declared.walk.Walk.{Walk}
use Rattle.tree.specs.Covering.{Keeps}
use Rattle.tree.specs.Slots.{slots, frame_slots}
use Rattle.tree.proofs.Forests.{some-items}

slots-long : (rule column index : ℕ) (xs : List Item) → length (slots rule column index xs) ≡ length xs
slots-long rule column index [] = refl
slots-long rule column index (x ∷ xs) = ap suc (slots-long rule column (index + 1) xs)

some-slot : (f : Frame) → 1 ≤ length (frame_slots f)
some-slot f =
    let some = some-items f.items in
    let long = slots-long f.rule f.column f.index (listed f.items) in
    omega arith

pub high_slots : (fs : List Frame) → length fs ≤ length (flat_map frame_slots fs)
high_slots [] = omega arith
high_slots (f ∷ fs) =
    let a = some-slot f in
    let b = high_slots fs in
    let c = length-append (frame_slots f) (flat_map frame_slots fs) in
    omega arith

-- where 128 wait and one more should
pub too_many : (f : Frame) (fs : List Frame) → length fs ≡ 128 → 128 < length (frame_slots f ++ flat_map frame_slots (reverse fs))
too_many f fs full =
    let r = length-reverse fs in
    let b = some-slot f in
    let d = high_slots (reverse fs) in
    let c = length-append (frame_slots f) (flat_map frame_slots (reverse fs)) in
    omega arith

-- a node was put behind those that wait, or there was no room for it
module _ {X : Type 0} (f : Frame) (w : Walk X) (after : ArrayVec Frame) where
  abbrev beside : Walk X
  beside = record { grammar = w.grammar; nodes = w.nodes; terminals = w.terminals; waiting = after; entered = w.entered; piece = w.piece }

  pub kept : {E : Type 0} (answer : Result Unit Fault) (pushed : Result Unit E) (P : E → Fault → Type 0)
      → ((e : E) (g : Fault) → P e g → g ≡ GrammarMismatch)
      → MatchResult pushed (λ u. answer ≡ Ok u) (λ e. IsErrAnd answer (P e))
      → OnOk pushed (after.items ≡ w.waiting.items ++ f ∷ []) → OnErr pushed (length w.waiting.items ≡ 128)
      → Keeps (Some f) w beside answer
  kept answer (Ok u) P refused is ok err =
      subst (Keeps (Some f) w beside) (sym is)
      (ap (λ (fs : List Frame). flat_map frame_slots (reverse fs)) ok ∙ ap (flat_map frame_slots) (reverse-append w.waiting.items (f ∷ [])))
  kept answer (Err e) P refused is ok err =
      let g = err_from_is_err_and answer is in
      subst (Keeps (Some f) w beside) (sym g.1) (refused e g.0 g.2, too_many f w.waiting.items err)
