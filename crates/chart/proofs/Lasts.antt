-- `find` over a range from its end on: the last number that passes a test.
use Rattle.std.proofs.Common.{◌≡◌, ℕ, ◌+◌, ◌-◌, ◌<◌, ◌≤◌, Bool, true, false, Some, None, Option, MatchOption, Bor, ap, ◌∙◌, subst, arith}
use Rattle.std.specs.Prelude.{IfSome, IsSomeAnd, IsTrue}
use Rattle.std.specs.Fn.{CalledAt}
use Rattle.std.specs.Option.{option_map}
use Rattle.std.specs.Iterator.Runs.{Run, SomeRun, CallKeepsClosure, NoItemPasses, EndsAtFirstPassing}
use Rattle.std.specs.Iterator.Adapters.{rev_steps, RevKeepsRuns}
use Rattle.std.specs.declared.ops.Range.{Range}
use Rattle.std.proofs.iter.runs.Sources.{nat_range_steps_back, range_runs_back}
use denote.Param.Members.{Mut}

is_some : (o : Option ℕ) (n : ℕ) (P : ℕ → Type 0) → IsSomeAnd o P → option_map (λ y. y) o ≡ Some n → P n
is_some None n P h e = absurd h
is_some (Some x) n P h e = let q : x ≡ n = cc in subst P q h

if_some : (o : Option ℕ) (n : ℕ) (P : ℕ → Type 0) → IfSome o P → option_map (λ y. y) o ≡ Some n → P n
if_some None n P h e = let z : ◌≡◌ {A = ℕ} 0 1 = cc in absurd (omega arith)
if_some (Some x) n P h e = let q : x ≡ n = cc in subst P q h

weaken : (o : Option ℕ) (P Q : ℕ → Type 0) → ((x : ℕ) → P x → Q x) → IfSome o P → IfSome o Q
weaken None P Q f h = h
weaken (Some x) P Q f h = f x h

stronger : (o : Option ℕ) (P Q : ℕ → Type 0) → ((x : ℕ) → P x → Q x) → IsSomeAnd o P → IsSomeAnd o Q
stronger None P Q f h = absurd h
stronger (Some x) P Q f h = f x h

module _ {F : Type 0} (g : Mut F (Bor ℕ × Unit {0}) Bool) (f : F) (Yes : ℕ → Type 0) (keeps : CallKeepsClosure g f)
    (yes : (x : ℕ) → CalledAt g f x true f → Yes x) (no : (x : ℕ) → CalledAt g f x false f → Yes x → ⊥) (range : Range ℕ)
    (s : _) (reversed : RevKeepsRuns nat_range_steps_back range s) where
  module _ (p : Run (rev_steps nat_range_steps_back)) (from : p.from ≡ s) where
    -- the numbers of the run count down
    counts : (p.whole ≡ true → p.len ≡ range.end - range.start)
        × ((k : ℕ) → k < p.len → option_map (λ y. y) (p.at k) ≡ Some (range.end - 1 - k))
        × ((k : ℕ) → IfSome (p.at k) (λ x. (x + k + 1 ≡ range.end) × (range.start ≤ x)))
    counts =
        let q = reversed p p.seen from in
        let d = range_runs_back q.0 q.0.seen in
        let e : q.0.from ≡ range = q.1 in
        let start : q.0.from.start ≡ range.start = ap (λ (r : Range ℕ). r.start) e in
        let end : q.0.from.end ≡ range.end = ap (λ (r : Range ℕ). r.end) e in (
          (λ w. omega (arith, d.1 (q.2.1 ∙ w), q.2.0.0)),
          (λ k l.
              rw (← end) (subst (λ (o : Option ℕ). option_map (λ y. y) o ≡ Some (q.0.from.end - 1 - k)) (q.2.0.2 k)
              (d.3 k (omega (arith, q.2.0.0))))),
          (λ k.
              rw (← end, ← start) (subst (λ (o : Option ℕ). IfSome o (λ x. (x + k + 1 ≡ q.0.from.end) × (q.0.from.start ≤ x))) (q.2.0.2 k)
              (d.2 k))),
        )

    none_passes : IsTrue p.whole → NoItemPasses p g f → (k : ℕ) → range.start ≤ k → k < range.end → Yes k → ⊥
    none_passes w h k a b =
        let i : ℕ = range.end - 1 - k in
        let e : range.end - 1 - i ≡ k = omega arith in
        subst (λ (x : ℕ). Yes x → ⊥) e
        (if_some (p.at i) (range.end - 1 - i) (λ x. Yes x → ⊥)
        (weaken (p.at i) (λ x. CalledAt g f x false f) (λ x. Yes x → ⊥) no (h keeps i)) (counts.1 i (omega (arith, counts.0 w))))

    last_passes : (x : ℕ) → EndsAtFirstPassing p g f x
        → (range.start ≤ x) × (x < range.end) × Yes x × ((k : ℕ) → x < k → k < range.end → Yes k → ⊥)
    last_passes x (i, l, e, h) =
        let t = h keeps in
        let c : (x + i + 1 ≡ range.end) × (range.start ≤ x) =
        subst (λ (o : Option ℕ). IfSome o (λ y. (y + i + 1 ≡ range.end) × (range.start ≤ y))) e (counts.2 i) in (
          c.1,
          omega (arith, c.0),
          yes x t.0,
          λ k a b.
              let j : ℕ = range.end - 1 - k in
              let q : range.end - 1 - j ≡ k = omega arith in
              subst (λ (y : ℕ). Yes y → ⊥) q
              (is_some (p.at j) (range.end - 1 - j) (λ y. Yes y → ⊥)
              (stronger (p.at j) (λ y. CalledAt g f y false f) (λ y. Yes y → ⊥) no (t.1 j (omega (arith, c.0))))
              (counts.1 j (omega (arith, c.0)))),
        )

  pub found_last : (r : Option ℕ)
      → SomeRun (rev_steps nat_range_steps_back) s (λ u. MatchOption r (IsTrue u.whole × NoItemPasses u g f) (EndsAtFirstPassing u g f))
      → MatchOption r ((k : ℕ) → range.start ≤ k → k < range.end → Yes k → ⊥)
      (λ x. (range.start ≤ x) × (x < range.end) × Yes x × ((k : ℕ) → x < k → k < range.end → Yes k → ⊥))
  found_last None u = none_passes u.0 u.1 u.2.0 u.2.1
  found_last (Some x) u = last_passes u.0 u.1 x u.2
