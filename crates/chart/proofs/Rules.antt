-- The columns of a tree, rule by rule.
use Rattle.std.proofs.Common.{◌≡◌, ℕ, ◌+◌, ◌<◌, ◌≤◌, List, length, Some, None, refl, subst, inl, inr, ⊎_elim, arith}
use lib.Bits.{bit_or}
use Rattle.std.proofs.lemmas.Bool.{cases_lt}
use Rattle.std.specs.List.{slice_get}
use Rattle.std.proofs.lemmas.Option.{slice_get_within}
use Rattle.columns.specs.Mask.{Means}
use Rattle.columns.proofs.Sets.{means_as, means_none, means_or}
use Rattle.grammar.specs.Model.{Items}
use Rattle.grammar.specs.declared.rule.Rule.{Rule}
use Rattle.grammar.specs.Model.{Model}
use Rattle.grammar.specs.Several.{listed}
use Rattle.text.specs.declared.token.Token.{Token}
use Rattle.chart.specs.Readings.{Derives, Row, ByRule, ItemsOf}
use Rattle.chart.proofs.Rows.{same_some, derives_rule, rule_derives}

-- one of the rules below n can stand at the node
abbrev pub Rules : Model → List Token → ℕ → ℕ → ℕ → ℕ → ℕ → Type 0
Rules G ts A i j n c = (r : ℕ) × (r < n) × ByRule G ts r A i j c

module _ (G : Model) (ts : List Token) (A i j : ℕ) where
  pub rule_hit : (r : ℕ) (items : Items) → ItemsOf G ts A r (Some items) → (c : ℕ) → ByRule G ts r A i j c → Row G ts (listed items) i j c
  rule_hit r items e c x =
      subst (λ (s : Rule). Row G ts (listed s.items) i j c) (same_some (slice_get G.rules r) x.0 record { left = A; items = items }
      x.1 e) x.3

  pub rule_miss : (r : ℕ) → ItemsOf G ts A r None → (c : ℕ) → ByRule G ts r A i j c → ⊥
  rule_miss r n c x = n x.0 x.1 x.2

  pub rules-none : Means 0 (Rules G ts A i j 0)
  rules-none = means_none (λ c q. omega (arith, q.1))

  rules_with : (n all a : ℕ) → Means all (Rules G ts A i j n) → Means a (ByRule G ts n A i j)
      → Means (bit_or all a) (Rules G ts A i j (n + 1))
  rules_with n all a e p =
      means_as (means_or all a e p)
      (λ c. elim [ inl h ↦ (h.0, omega (arith, h.1), h.2) | inr h ↦ (n, omega arith, h) ])
      (λ c h. ⊎_elim (λ r. inl (h.0, r, h.2))
      (λ r. let o : h.0 ≡ n = omega (arith, h.1) in inr (subst (λ (k : ℕ). ByRule G ts k A i j c) o h.2)) (cases_lt h.0 n))

  pub rules_more : (n all a : ℕ) (items : Items) → Means all (Rules G ts A i j n) → ItemsOf G ts A n (Some items)
      → Means a (Row G ts (listed items) i j) → Means (bit_or all a) (Rules G ts A i j (n + 1))
  rules_more n all a items e s m =
      rules_with n all a e (means_as m (λ c x. (record { left = A; items = items }, s, refl, x)) (rule_hit n items s))

  pub rules_skip : (n all : ℕ) → Means all (Rules G ts A i j n) → ItemsOf G ts A n None → Means all (Rules G ts A i j (n + 1))
  rules_skip n all e s =
      means_as e (λ c h. (h.0, omega (arith, h.1), h.2))
      (λ c h. ⊎_elim (λ r. (h.0, r, h.2))
      (λ r.
      let o : h.0 ≡ n = omega (arith, h.1) in
      absurd (rule_miss n s c (subst (λ (k : ℕ). ByRule G ts k A i j c) o h.2))) (cases_lt h.0 n))

  pub rules-all : (n all : ℕ) → length G.rules ≤ n → Means all (Rules G ts A i j n) → Means all (Derives G ts A i j)
  rules-all n all l e =
      means_as e (λ c h. rule_derives G ts A i j c h.0 h.2)
      (λ c h.
      let q = derives_rule G ts A i j c h in
      (q.0, omega (arith, slice_get_within G.rules q.0 q.1.0 q.1.1), q.1))
