-- The whole way from text to text.
use Rattle.std.proofs.Common.{◌≡◌, ℕ, ◌+◌, ◌≤◌, List, length, Ok, Err, Result, inr, MatchResult}
use Rattle.faults.specs.declared.fault.Fault.{Fault}
use Rattle.galley.specs.declared.galley.Galley.{Galley}
use Rattle.formatter.specs.Reindents.{Roomy, ReadIn, Writes, Reindents}

module _ (text old : List ℕ) (x y z : Galley) (new : List ℕ) (roomy : Roomy x) (reads : ReadIn text x (Ok tt) y) where
  pub reindents : (r : Result ℕ Fault) → Writes y old r z new → MatchResult r (λ n. 0 + n ≤ length old) (λ _. new ≡ old)
      → Reindents text old r
      new
  reindents (Ok n) writes fits = record { x = x; y = y; z = z; roomy = roomy; reads = reads; writes = writes }
  reindents (Err f) writes kept = (kept, inr (record { x = x; y = y; z = z; roomy = roomy; reads = reads; writes = writes }))
