-- Masks and the sets of columns that they mean.
use Rattle.std.proofs.Common.{◌≡◌, ℕ, ◌-◌, ◌*◌, ◌%◌, ◌^◌, ◌<◌, ◌≤◌, ◌⊎◌, sym, refl, subst, inl, inr, ⊎_elim, arith}
use lib.Bits.{bit_and, bit_or}
use Rattle.std.proofs.lemmas.Bool.{cases_lt}
use Rattle.columns.specs.Mask.{Bit, Means, Near}
use Rattle.columns.specs.declared.relation.Relation.{Relation}
use Rattle.columns.specs.declared.relation.Relation.TheVariants.{Equal, Above, AtLeast, Any}
use Rattle.columns.proofs.Bits.{bit_or_l, bit_or_r, bit-or, bit-and, and_bit, bit_zero, bit_lt, bit_top, top_bit}
use Rattle.columns.proofs.Bits.{bit_ones, ones_bit, pow_bit, bit_pow, some_bit}
use Rattle.columns.proofs.Shifts.{bit_cut, cut_bit, bit_shl, shl_bit}

-- nothing is near the empty set
pub near_none : (relation : Relation) → Means 0 (Near relation (Bit 0))
unfolding Near
near_none relation = record { sound = λ c b. absurd (bit_zero c b); whole = λ c n. absurd (bit_zero n.1.0 n.1.1) }

pub near_equal : (m : ℕ) → m < 2 ^ 64 → Means m (Near Equal (Bit m))
unfolding Near
near_equal m h = record {
  sound = λ c b. (bit_lt m c 64 h b, (c, b, refl));
  whole = λ c n. subst (Bit m) n.1.2 n.1.1;
}

-- k is the highest column of m
pub near_above : (m k : ℕ) → k < 64 → 2 ^ k ≤ m → m < 2 * 2 ^ k → Means (2 ^ k - 1) (Near Above (Bit m))
unfolding Near
near_above m k s h l = record {
  sound = λ c b. let p : c < k = ones_bit k c b in (omega arith, (k, bit_top m k h l, p));
  whole = λ c n. bit_ones k c (omega (arith, top_bit m k n.1.0 l n.1.1));
}

pub near_at_least : (a m : ℕ) → m < 2 ^ 64 → Means a (Near Above (Bit m)) → Means (bit_or a m) (Near AtLeast (Bit m))
unfolding Near
near_at_least a m h e = record {
  sound = λ c b. ⊎_elim (λ p. let n = e.sound c p in (n.0, (n.1.0, n.1.1, omega arith)))
      (λ p. (bit_lt m c 64 h p, (c, p, omega arith))) (bit-or a m c b);
  whole = λ c n. ⊎_elim (λ p. bit_or_l a m c (e.whole c (n.0, (n.1.0, n.1.1, p))))
      (λ p. bit_or_r a m c (let q : n.1.0 ≡ c = omega arith in subst (Bit m) q n.1.1)) (cases_lt c n.1.0);
}

pub near_any : (m : ℕ) → 0 < m → m < 2 ^ 64 → Means (2 ^ 64 - 1) (Near Any (Bit m))
unfolding Near
near_any m p h = record {
  sound = λ c b. let t = some_bit m p h in (ones_bit 64 c b, (t.0, t.1, tt));
  whole = λ c n. bit_ones 64 c n.0;
}

-- a union, an intersection, and the empty set
pub means_or : (a b : ℕ) {P Q : ℕ → Type 0} → Means a P → Means b Q → Means (bit_or a b) (λ c. P c ⊎ Q c)
means_or a b p q = record {
  sound = λ c h. ⊎_elim (λ x. inl (p.sound c x)) (λ x. inr (q.sound c x)) (bit-or a b c h);
  whole = λ c. elim [ inl x ↦ bit_or_l a b c (p.whole c x) | inr y ↦ bit_or_r a b c (q.whole c y) ];
}

pub means_and : (a b : ℕ) {P Q : ℕ → Type 0} → Means a P → Means b Q → Means (bit_and a b) (λ c. P c × Q c)
means_and a b p q = record {
  sound = λ c h. let t = bit-and a b c h in (p.sound c t.0, q.sound c t.1);
  whole = λ c x. and_bit a b c (p.whole c x.0) (q.whole c x.1);
}

pub means_none : {P : ℕ → Type 0} → ((c : ℕ) → P c → ⊥) → Means 0 P
means_none f = record { sound = λ c b. absurd (bit_zero c b); whole = λ c x. absurd (f c x) }

-- the nodes near a set, by what the set means
pub means_near : (m r : ℕ) (relation : Relation) {P : ℕ → Type 0} → Means m P → Means r (Near relation (Bit m)) → Means r (Near relation P)
unfolding Near
means_near m r relation e n = record {
  sound = λ c b. let t = n.sound c b in (t.0, (t.1.0, e.sound t.1.0 t.1.1, t.1.2));
  whole = λ c x. n.whole c (x.0, (x.1.0, e.whole x.1.0 x.1.1, x.1.2));
}

-- the same set, said another way
pub means_as : {m : ℕ} {P Q : ℕ → Type 0} → Means m P → ((c : ℕ) → P c → Q c) → ((c : ℕ) → Q c → P c) → Means m Q
means_as e f g = record { sound = λ c b. f c (e.sound c b); whole = λ c x. e.whole c (g c x) }

-- one column, all columns, and the columns from k on
pub means_only : (k : ℕ) → k < 64 → Means (2 ^ k) (λ d. (d < 64) × (d ≡ k))
means_only k h = record {
  sound = λ c b. let e : c ≡ k = bit_pow k c b in (omega arith, e);
  whole = λ c x. subst (Bit (2 ^ k)) (sym x.1) (pow_bit k);
}

pub means_all : Means (2 ^ 64 - 1) (λ d. (d < 64) × Unit {0})
means_all = record { sound = λ c b. (ones_bit 64 c b, tt); whole = λ c x. bit_ones 64 c x.0 }

pub means_from : (k : ℕ) → Means (((2 ^ 64 - 1) * 2 ^ k) % 2 ^ 64) (λ d. (d < 64) × (k ≤ d))
means_from k = record {
  sound = λ c b. let t = cut_bit ((2 ^ 64 - 1) * 2 ^ k) 64 c b in (t.0, (shl_bit (2 ^ 64 - 1) k c t.1).0);
  whole = λ c x. bit_cut ((2 ^ 64 - 1) * 2 ^ k) 64 c x.0 (bit_shl (2 ^ 64 - 1) k c x.1 (bit_ones 64 (c - k) (omega arith)));
}
