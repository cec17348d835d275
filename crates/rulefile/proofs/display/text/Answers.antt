use Rattle.std.proofs.Common.{◌≡◌, ℕ, Bool, true, false, cond, List, [], Ok, Err, Result, MatchResult, Bor, IsUtf8}
use Rattle.std.proofs.Common.{sym, refl, ap, ◌∙◌}
use Rattle.std.specs.Result.{result_unwrap_or}
use Rattle.std.specs.Str.{is_utf8}
use Rattle.std.proofs.lemmas.Str.{IsUtf8-from_is_utf8, is_utf8-from_IsUtf8}
use Rattle.rulefile.specs.Spelled.{spelled}
use Rattle.rulefile.proofs.display.text.Goals as goal

-- bytes that are text, and bytes that are none
shown : (bs : List ℕ) → IsUtf8 bs → bs ≡ cond (is_utf8 bs) bs []
shown bs u = sym (ap (λ b. cond b bs []) (is_utf8-from_IsUtf8 bs u))

is_false : (b : Bool) → (b ≡ true → ⊥) → b ≡ false
is_false true f = absurd (f refl)
is_false false f = refl

hidden : (bs : List ℕ) → (IsUtf8 bs → ⊥) → [] ≡ cond (is_utf8 bs) bs []
hidden bs n = sym (ap (λ b. cond b bs []) (is_false (is_utf8 bs) (λ e. n (IsUtf8-from_is_utf8 bs e))))

either : {E : Type 0} (bs : List ℕ) (r : Result (Bor (List ℕ)) E) (none : Bor (List ℕ)) (V : E → Type 0)
    → MatchResult r (λ s. (s.now ≡ bs) × IsUtf8 bs) (λ e. (IsUtf8 bs → ⊥) × V e) → none.now ≡ []
    → (result_unwrap_or r none).now ≡ cond (is_utf8 bs) bs []
either bs (Ok s) none V h e = h.0 ∙ shown bs h.1
either bs (Err f) none V h e = e ∙ hidden bs h.0

pub returns : goal.returns
returns c =
    ap (λ (b : Bor (List ℕ)). b.now) c.unwrap_or.ensures
    ∙ either (spelled c.args.spelling.now) c.from_utf8.result _ _
    (rw c.as_slice.ensures at c.from_utf8.ensures.cases) refl
