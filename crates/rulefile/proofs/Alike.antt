-- Terminals that are equal, and tables of them.
use Rattle.std.proofs.Common.{◌≡◌, ℕ, true, Some, None, Option, IfNone, refl, ap, ◌∙◌}
use Rattle.arrayvec.specs.ArrayVec.{ArrayVec}
use Rattle.grammar.specs.Model as model
use Rattle.rulefile.specs.contracts.terminal.TerminalPartialEq.TheImpl.{ghosts}
use Rattle.rulefile.specs.declared.terminal.Terminal.{Terminal}
use Rattle.rulefile.specs.declared.terminal.Terminal.TheVariants.{Name, Number, Quote, Word}
use Rattle.rulefile.specs.Denoted.{denoted, alike, listed, distinct}
use Rattle.rulefile.specs.Places.{Numbers}
use Rattle.rulefile.proofs.Distinct.{distinct_new}

-- equal terminals are alike
pub alike_is : (x y : Terminal) → ghosts.eq y x ≡ alike (denoted x) (denoted y)
alike_is Name Name = refl
alike_is Name Number = refl
alike_is Name Quote = refl
alike_is Name (Word w) = refl
alike_is Number Name = refl
alike_is Number Number = refl
alike_is Number Quote = refl
alike_is Number (Word w) = refl
alike_is Quote Name = refl
alike_is Quote Number = refl
alike_is Quote Quote = refl
alike_is Quote (Word w) = refl
alike_is (Word v) Name = refl
alike_is (Word v) Number = refl
alike_is (Word v) Quote = refl
alike_is (Word v) (Word w) = refl

-- no two are alike when one has got its number
pub still_distinct : (v w : ArrayVec Terminal) (t : model.Terminal) (r : Option ℕ) → distinct (listed v.items) ≡ true
    → Numbers alike 32 (listed v.items) t r (listed w.items) → IfNone r (w ≡ v) → distinct (listed w.items) ≡ true
still_distinct v w t (Some k) d n h = ap distinct n.1 ∙ distinct_new alike (listed v.items) t d
still_distinct v w t None d n h = ap (λ (u : ArrayVec Terminal). distinct (listed u.items)) h ∙ d
