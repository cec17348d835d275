-- What waits on the stack after a push, and after a pop.
use Rattle.std.proofs.Common.{◌≡◌, ◌<◌, Bool, true, false, List, [], ◌∷◌, ◌++◌, length, reverse, Some, refl, ◌∙◌, ap, arith}
use Rattle.std.specs.Option.{option_to_list}
use Rattle.std.proofs.lemmas.List.{reverse-append}
use Rattle.arrayvec.specs.ArrayVec.{ArrayVec}
use Rattle.chart.specs.declared.waiting.Waiting.{Waiting}
use Rattle.chart.specs.Waits.{waiting}

pub pushed : (w : Waiting) (old new : ArrayVec Waiting) → new.items ≡ old.items ++ w ∷ [] → waiting new ≡ (w ∷ []) ++ waiting old
pushed w old new e = ap reverse e ∙ reverse-append old.items (w ∷ [])

pub popped : (w : Waiting) (old new : ArrayVec Waiting) → old.items ≡ new.items ++ option_to_list (Some w) → waiting old ≡ w ∷ waiting new
popped w old new e = ap reverse e ∙ reverse-append new.items (w ∷ [])

none_left : (ws : List Waiting) → (0 < length ws → ◌≡◌ {A = Bool} false true) → reverse ws ≡ []
none_left [] h = refl
none_left (w ∷ ws) h = let e = h (omega arith) in cc

pub emptied : (stack : ArrayVec Waiting) → (0 < length stack.items → ◌≡◌ {A = Bool} false true) → waiting stack ≡ []
emptied stack h = none_left stack.items h
