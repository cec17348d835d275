-- The block language keeps the law of grammars.
use Rattle.std.specs.Prelude.{◌≡◌, ℕ, zero, suc, List, [], ◌∷◌, Some, Option, refl}
use Rattle.std.proofs.Common.{subst, arith, lit≤, rules}
use Rattle.std.specs.List.{slice_get, AllByRecursion}
use Rattle.grammar.specs.Model.{Terminal, class, word, first_with, spelled, classed}
use Rattle.grammar.specs.Lawful.{Lawful, Proper, WellFormed}
use Rattle.grammar.specs.Block.{block, terminals, rules as lines}

-- what holds of each element at its number
abbrev Each : {X : Type 0} → (ℕ → X → Type 0) → List X → Type 0
Each P [] = Unit {0}
Each P (x ∷ xs) = P 0 x × Each (λ k. P (suc k)) xs

each_nth : {X : Type 0} (P : ℕ → X → Type 0) (xs : List X) (k : ℕ) (x : X) → Each P xs → slice_get xs k ≡ Some x → P k x
each_nth P [] k x h e = absurd (let z : ◌≡◌ {A = ℕ} 0 1 = cc in omega arith)
each_nth P (y ∷ ys) zero x h e = let q : y ≡ x = cc in subst (P 0) q h.0
each_nth P (y ∷ ys) (suc k) x h e = each_nth (λ j. P (suc j)) ys k x h.1 e

pub all-nth : {X : Type 0} (P : X → Type 0) (xs : List X) (k : ℕ) (x : X) → AllByRecursion P xs → slice_get xs k ≡ Some x → P x
all-nth P [] k x h e = absurd (let z : ◌≡◌ {A = ℕ} 0 1 = cc in omega arith)
all-nth P (y ∷ ys) zero x h e = let q : y ≡ x = cc in subst P q h.0
all-nth P (y ∷ ys) (suc k) x h e = all-nth P ys k x h.1 e

-- the number of a terminal
abbrev number_of : Terminal → Option ℕ
number_of (class c) = first_with (classed (Some c)) terminals
number_of (word w) = first_with (spelled w) terminals

numbered : Each (λ k t. number_of t ≡ Some k) terminals
numbered = (refl, (refl, (refl, (refl, (refl, (refl, (refl, tt)))))))

well_formed : AllByRecursion WellFormed terminals
well_formed = search rules

proper : AllByRecursion (Proper block) lines
proper = search rules

pub lawful : Lawful block
lawful = record {
  nonterminals = (lit≤ tt, lit≤ tt);
  terminals = (lit≤ tt, lit≤ tt);
  rules = (lit≤ tt, lit≤ tt);
  once = λ j k t p q.
      let a = each_nth (λ n x. number_of x ≡ Some n) terminals j t numbered p in
      let b = each_nth (λ n x. number_of x ≡ Some n) terminals k t numbered q in
      cc;
  spelling = λ k t p. all-nth WellFormed terminals k t well_formed p;
  proper = λ r rule p. all-nth (Proper block) lines r rule proper p;
}
