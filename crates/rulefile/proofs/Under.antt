-- The value that stands under a name.
use Rattle.std.proofs.Common.{◌≡◌, ℕ, List, [], Some, None, Option, sym, refl, ap, ◌∙◌}
use Rattle.std.specs.Prelude.{find}
use Rattle.std.specs.Borrow.{Bor}
use Rattle.std.specs.List.{zip}
use Rattle.std.specs.Option.{option_map, option_map_or}
use Rattle.std.specs.Str.{bytes_eq}
use Rattle.rulefile.specs.Parts.{under}

-- a name and the value below it, as lists
abbrev pub seen : Bor (List ℕ) × Bor (List ℕ) → List ℕ × List ℕ
seen p = (p.0.now, p.1.now)

module _ (name : List ℕ) (ns vs : List (List ℕ)) (r : Option (Bor (List ℕ) × Bor (List ℕ)))
    (found : option_map seen r ≡ find (λ p. bytes_eq p.0 name) (zip ns vs)) where
  below : (o : Option (Bor (List ℕ) × Bor (List ℕ))) → r ≡ o → (value : Bor (List ℕ))
      → ((p : Bor (List ℕ) × Bor (List ℕ)) → r ≡ Some p → value.now ≡ p.1.now) → (r ≡ None → value.now ≡ [])
      → value.now ≡ under name ns vs
  below None e value some none =
      none e ∙ ap (λ (o : Option (List ℕ × List ℕ)). option_map_or (λ p. p.1) o []) (sym (ap (option_map seen) e) ∙ found)
  below (Some p) e value some none =
      some p e ∙ ap (λ (o : Option (List ℕ × List ℕ)). option_map_or (λ p. p.1) o []) (sym (ap (option_map seen) e) ∙ found)

  pub under_either : (value : Bor (List ℕ)) → ((p : Bor (List ℕ) × Bor (List ℕ)) → r ≡ Some p → value.now ≡ p.1.now)
      → (r ≡ None → value.now ≡ []) → value.now ≡ under name ns vs
  under_either value some none = below r refl value some none
