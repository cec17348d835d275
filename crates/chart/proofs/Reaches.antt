-- The tokens that a reading of those before them reaches.
use Rattle.std.proofs.Common.{◌≡◌, ℕ, Bool, true, false, not, ◌<◌, ◌≤◌, List, length, Some, None, Option, MatchOption, MatchBool, refl}
use Rattle.std.proofs.Common.{inl, inr, arith}
use Rattle.std.specs.Option.{unwrap_or}
use Rattle.columns.specs.Mask.{Bit, Means}
use Rattle.grammar.specs.Model.{Model}
use Rattle.text.specs.declared.token.Token.{Token}
use Rattle.chart.specs.Readings.{Derives}
use Rattle.chart.specs.First.{Reads, Reach}
use Rattle.chart.proofs.Fronts.{front_reading, reading_front}

-- what is told by a test that is turned round
pub turned : {P Q : Type 0} (b : Bool) → MatchBool b P Q → (not b ≡ true → Q) × (not b ≡ false → P)
turned true h = (λ e. let z : ◌≡◌ {A = ℕ} 0 1 = cc in absurd (omega arith), λ e. h)
turned false h = (λ e. h, λ e. let z : ◌≡◌ {A = ℕ} 0 1 = cc in absurd (omega arith))

module _ (G : Model) (ts : List Token) (A : ℕ) where
  pub reads_yes : (n m : ℕ) → n ≤ length ts → Means m (Derives G ts A 0 n) → (c : ℕ) × Bit m c → Reads G ts A n
  reads_yes n m l e b = front_reading G ts A n l b.0 (e.sound b.0 b.1)

  pub reads_no : (n m : ℕ) → n ≤ length ts → Means m (Derives G ts A 0 n) → ((c : ℕ) → Bit m c → ⊥) → Reads G ts A n → ⊥
  reads_no n m l e z r = let d = reading_front G ts A n l r.0 r.1 in z d.0 (e.whole d.0 d.1)

  pub reach_found : (n : ℕ) (r : Option ℕ) → 0 < n
      → MatchOption r ((k : ℕ) → 1 ≤ k → k < n → Reads G ts A k → ⊥)
      (λ p. (1 ≤ p) × (p < n) × Reads G ts A p × ((k : ℕ) → p < k → k < n → Reads G ts A k → ⊥)) → Reach G ts A n (unwrap_or r 0)
  reach_found n None l h = record {
    within = l;
    reads = inl refl;
    last = λ q a b t d. h q a b (t, d);
  }
  reach_found n (Some p) l h = record {
    within = h.1;
    reads = inr h.2;
    last = λ q a b t d. h.3 q a b (t, d);
  }
