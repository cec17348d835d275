-- The columns at which a terminal can cover tokens.
use Rattle.std.proofs.Common.{◌≡◌, ℕ, ◌+◌, ◌<◌, List, map, Some, sym, ap, ◌∙◌, arith}
use Rattle.std.specs.List.{slice_get}
use Rattle.std.specs.Option.{option_map}
use Rattle.std.proofs.lemmas.Option.{slice_get-map}
use Rattle.columns.specs.Mask.{Means}
use Rattle.columns.proofs.Sets.{means_as, means_none}
use Rattle.grammar.specs.declared.rule.Symbol.TheVariants.{Terminal}
use Rattle.grammar.specs.Model.{Model}
use Rattle.text.specs.declared.token.Token.{Token}
use Rattle.chart.specs.Readings.{terminals, columns, Part}
use Rattle.chart.proofs.Rows.{same_some}

nth-map : {X Y : Type 0} (f : X → Y) (xs : List X) (i : ℕ) (x : X) → slice_get xs i ≡ Some x → slice_get (map f xs) i ≡ Some (f x)
nth-map f xs i x e = slice_get-map f xs i ∙ ap (option_map f) e

module _ (G : Model) (ts : List Token) where
  pub terminal_hit : (r a i j : ℕ) (t : Token) → slice_get ts i ≡ Some t → Means r (λ d. (d < 64) × (d ≡ t.column)) → j ≡ i + 1
      → t.terminal ≡ a
      → Means r (Part G ts (Terminal a) i j)
  terminal_hit r a i j t e m f g =
      let p = nth-map (λ (x : Token). x.terminal) ts i t e in
      let q = nth-map (λ (x : Token). x.column) ts i t e in
      means_as m (λ d h. (omega arith, p ∙ ap Some g, q ∙ ap Some (sym h.1), h.0))
      (λ d h. (h.3, same_some (slice_get (columns ts) i) d t.column h.2 q))

  pub terminal_miss : (a i j : ℕ) (t : Token) → slice_get ts i ≡ Some t → (j ≡ i + 1 → t.terminal ≡ a → ⊥)
      → Means 0 (Part G ts (Terminal a) i j)
  terminal_miss a i j t e n =
      let p = nth-map (λ (x : Token). x.terminal) ts i t e in
      means_none (λ d h. n (omega arith) (same_some (slice_get (terminals ts) i) t.terminal a p h.1))
