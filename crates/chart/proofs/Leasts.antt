-- The least column of an item, and what waits for it.
use Rattle.std.proofs.Common.{◌≡◌, ℕ, ◌≤◌, List, [], ◌∷◌, Some, None, Option, sym, refl, subst, arith}
use Rattle.std.specs.Option.{IsSome}
use Rattle.columns.specs.Relation.{Meets}
use Rattle.columns.specs.Mask.{Bit, Means, Near, Lowest}
use Rattle.grammar.specs.declared.rule.Symbol.{Symbol}
use Rattle.grammar.specs.declared.rule.Symbol.TheVariants.{Terminal, Nonterminal}
use Rattle.grammar.specs.declared.rule.Item.{Item}
use Rattle.grammar.specs.Model.{Model}
use Rattle.text.specs.declared.token.Token.{Token}
use Rattle.chart.specs.declared.waiting.Waiting.{Waiting}
use Rattle.chart.specs.Readings.{Part}
use Rattle.chart.specs.First.{Least}
use Rattle.chart.specs.Waits.{Awaits}

pub waits_none : (G : Model) (ts : List Token) (x : Item) (i j c a : ℕ) → x.symbol ≡ Terminal a → Awaits G ts x x.symbol c i j []
waits_none G ts x i j c a e = subst (λ (y : Symbol). Awaits G ts x y c i j []) (sym e) refl

module _ (G : Model) (ts : List Token) (x : Item) (i j c m : ℕ) (means : Means m (Part G ts x.symbol i j)) where
  no_least : Near x.relation (Part G ts x.symbol i j) c → ((d : ℕ) → Bit m d × Meets x.relation c d → ⊥) → ⊥
  unfolding Near
  no_least n f = f n.1.0 (means.whole n.1.0 n.1.1, n.1.2)

  pub some_least : (r : Option ℕ) → Lowest (λ d. Bit m d × Meets x.relation c d) r → Near x.relation (Part G ts x.symbol i j) c → IsSome r
  some_least None h n = absurd (no_least n h)
  some_least (Some d) h n = refl

  pub least_of : (d : ℕ) → (Bit m d × Meets x.relation c d) × ((e : ℕ) → Bit m e × Meets x.relation c e → d ≤ e)
      → Least G ts x i j c d
  least_of d (h, f) = record {
    meets = h.1;
    part = means.sound d h.0;
    least = λ e l k p. omega (arith, f e (means.whole e p, k));
  }

  pub waits_one : (b : ℕ) (w : Waiting) → x.symbol ≡ Nonterminal b → w.symbol ≡ b → w.stretch.from ≡ i → w.stretch.to ≡ j
      → Least G ts x i j c w.column → Awaits G ts x x.symbol c i j (w ∷ [])
  waits_one b w e s f t l = subst (λ (y : Symbol). Awaits G ts x y c i j (w ∷ [])) (sym e) (w, refl, s, f, t, l)
