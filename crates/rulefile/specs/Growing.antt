-- One element more in a list, or none.
use Rattle.std.specs.Prelude.{◌≡◌, ◌<◌, ◌≤◌, Bool, cond, List, [], ◌∷◌, ◌++◌, length}
use Rattle.std.proofs.Common.{ap, lt-ltb, le-ltb}
use Rattle.rulefile.specs.Places.{place, with_new}

pub with_known : {Y : Type 0} (like : Y → Y → Bool) (ys : List Y) (y : Y) → place (like y) ys < length ys → with_new like ys y ≡ ys
with_known like ys y h = ap (λ b. cond b ys (ys ++ y ∷ [])) (lt-ltb (place (like y) ys) (length ys) h)

pub with_fresh : {Y : Type 0} (like : Y → Y → Bool) (ys : List Y) (y : Y) → length ys ≤ place (like y) ys → with_new like ys
    y ≡ ys ++ y ∷ []
with_fresh like ys y h = ap (λ b. cond b ys (ys ++ y ∷ [])) (le-ltb (place (like y) ys) (length ys) h)
