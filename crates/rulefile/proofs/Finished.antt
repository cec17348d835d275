-- Rules in order, and counts within their limits.
use Rattle.std.proofs.Common.{◌≡◌, ℕ, ◌+◌, Bool, true, false, cond, not, List, [], ◌∷◌, Some, None, Option, refl}
use Rattle.std.specs.List.{list_all}
use Rattle.std.proofs.lemmas.Bool.{and_from}
use Rattle.grammar.specs.declared.rule.Rule.{Rule}
use Rattle.rulefile.specs.Bounds.{ordered, unordered}

-- no rule out of order
first-ordered : (n : ℕ) (rest : Option ℕ) (b : Bool) → cond (not b) (Some n) rest ≡ None → (b ≡ true) × (rest ≡ None)
first-ordered n rest true e = (refl, e)
first-ordered n rest false e = absurd cc

pub all-ordered : (n : ℕ) (rs : List Rule) → unordered n rs ≡ None → list_all ordered rs ≡ true
all-ordered n [] e = refl
all-ordered n (r ∷ rs) e =
    let h = first-ordered n (unordered (n + 1) rs) (ordered r) e in
    and_from (ordered r) (list_all ordered rs) h.0 (all-ordered (n + 1) rs h.1)
