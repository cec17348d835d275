-- Trying number after number, and what can be decided so.
use Rattle.std.proofs.Common.{◌≡◌, ℕ, zero, suc, ◌<◌, ◌⊎◌, Some, None, Option, subst, inl, inr, ⊎_elim, arith}
use Rattle.std.proofs.lemmas.Bool.{cases_lt, cases_eq}
use Rattle.columns.specs.declared.relation.Relation.{Relation}
use Rattle.columns.specs.declared.relation.Relation.TheVariants.{Equal, Above, AtLeast, Any}
use Rattle.columns.specs.Relation.{Meets}

-- it holds or it does not
abbrev pub Decided : Type 0 → Type 0
Decided P = P ⊎ (P → ⊥)

-- k is the least number of which P holds
abbrev pub Lowest : (ℕ → Type 0) → ℕ → Type 0
Lowest P k = P k × ((q : ℕ) → q < k → P q → ⊥)

-- the least number below n of which P holds, or that there is none
pub try_below : (P : ℕ → Type 0) (n : ℕ) → ((k : ℕ) → k < n → Decided (P k))
    → ((k : ℕ) × (k < n) × Lowest P k) ⊎ ((k : ℕ) → k < n → P k → ⊥)
try_below P zero f = inr (λ k l. absurd (omega arith))
try_below P (suc n) f =
    ⊎_elim (λ h. inl (h.0, omega (arith, h.1), h.2))
    (λ g. ⊎_elim (λ p. inl (n, omega arith, (p, g)))
    (λ p. inr (λ k l x. ⊎_elim (λ m. g k m x) (λ m. let e : k ≡ n = omega arith in p (subst P e x)) (cases_lt k n))) (f n (omega arith)))
    (try_below P n (λ k l. f k (omega arith)))

-- of numbers below n, one of which is known
pub lowest_of : (P : ℕ → Type 0) (n : ℕ) → ((k : ℕ) → k < n → Decided (P k)) → (k : ℕ) → k < n → P k
    → (m : ℕ) × (m < n) × Lowest P m
lowest_of P n f k l p = ⊎_elim (λ h. h) (λ g. absurd (g k l p)) (try_below P n f)

pub decided_both : {P Q : Type 0} → Decided P → Decided Q → Decided (P × Q)
decided_both d e =
    ⊎_elim (λ p. ⊎_elim (λ q. inl (p, q)) (λ n. inr (λ h. n h.1)) e) (λ n. inr (λ h. n h.0)) d

pub decided_as : {P Q : Type 0} → (P → Q) → (Q → P) → Decided P → Decided Q
decided_as f g d = ⊎_elim (λ p. inl (f p)) (λ n. inr (λ q. n (g q))) d

pub decided_lt : (m n : ℕ) → Decided (m < n)
decided_lt m n = ⊎_elim inl (λ h. inr (λ l. omega arith)) (cases_lt m n)

pub decided_some : (o : Option ℕ) (a : ℕ) → Decided (o ≡ Some a)
decided_some None a = inr (λ e. let z : ◌≡◌ {A = ℕ} 0 1 = cc in omega arith)
decided_some (Some b) a = decided_as (λ (e : b ≡ a). (cc)) (λ (e : Some b ≡ Some a). (cc)) (cases_eq b a)

pub decided_meets : (r : Relation) (c d : ℕ) → Decided (Meets r c d)
decided_meets Equal c d = cases_eq d c
decided_meets Above c d = decided_lt c d
decided_meets AtLeast c d = ⊎_elim (λ h. inr (λ l. omega arith)) inl (cases_lt d c)
decided_meets Any c d = inl tt
