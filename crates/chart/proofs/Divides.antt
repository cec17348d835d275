-- What waits for a row of items, put together from the last item on.
use Rattle.std.proofs.Common.{◌≡◌, ℕ, List, [], ◌∷◌, ◌++◌, sym, refl, ap, ◌∙◌, subst, append_assoc, arith}
use Rattle.std.proofs.lemmas.List.{append-nil}
use Rattle.grammar.specs.declared.rule.Item.{Item}
use Rattle.grammar.specs.Model.{Model}
use Rattle.text.specs.declared.token.Token.{Token}
use Rattle.chart.specs.declared.waiting.Waiting.{Waiting}
use Rattle.chart.specs.Readings.{Row}
use Rattle.chart.specs.First.{Shortest}
use Rattle.chart.specs.Waits.{Awaits, Divided}
use Rattle.chart.proofs.Rows.{row_nil, nil_row, row_one, row_column}

-- on top of what waited, `vs` and then `us`
pub stacked : {X : Type 0} (us vs old mid new : List X) → mid ≡ vs ++ old → new ≡ us ++ mid → new ≡ (us ++ vs) ++ old
stacked us vs old mid new e f = f ∙ ap (λ y. us ++ y) e ∙ sym (append_assoc us vs old)

module _ (G : Model) (ts : List Token) where
  -- the last item goes up to the end
  last-item : (x : Item) (i j c : ℕ) → Row G ts (x ∷ []) i j c → Shortest G ts x [] i j c j
  last-item x i j c r = record {
    front = row_one G ts x i j c r;
    back = nil_row G ts j c (row_column G ts (x ∷ []) i j c r);
    least = λ m l p h. omega (arith, row_nil G ts m j c h);
  }

  pub divided_last : (x : Item) (c i j : ℕ) (ws : List Waiting) → Row G ts (x ∷ []) i j c → Awaits G ts x x.symbol c i j ws
      → Divided G ts (x ∷ []) c i j ws
  divided_last x c i j ws r h = (j, ws, [], sym (append-nil ws), last-item x i j c r, h, (refl, refl))

  pub divided_more : (x : Item) (xs : List Item) (c i k j : ℕ) (us vs : List Waiting) → Shortest G ts x xs i j c k
      → Awaits G ts x x.symbol c i k us → Divided G ts xs c k j vs → Divided G ts (x ∷ xs) c i j (us ++ vs)
  divided_more x xs c i k j us vs s h d = (k, us, vs, refl, s, h, d)

  -- what waits for a lone item
  pub divided_lone : (x : Item) (c i k : ℕ) (ws : List Waiting) → Divided G ts (x ∷ []) c i k ws → Awaits G ts x x.symbol c i k ws
  divided_lone x c i k ws (m, us, vs, e, s, h, d) =
      let q : ws ≡ us = e ∙ ap (λ (y : List Waiting). us ++ y) d.1 ∙ append-nil us in
      subst (λ (y : List Waiting). Awaits G ts x x.symbol c i k y) (sym q)
      (subst (λ (n : ℕ). Awaits G ts x x.symbol c i n us) d.0 h)
