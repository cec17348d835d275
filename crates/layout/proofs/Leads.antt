-- What comes before a piece, and how long it is.
use Rattle.std.proofs.Common.{◌≡◌, ℕ, ◌+◌, ◌-◌, Bool, true, false, cond, List, ◌∷◌, length, replicate, ap, ◌∙◌, arith}
use Rattle.std.proofs.lemmas.List.{length-replicate}
use Rattle.tree.specs.declared.piece.PieceRecord.{PieceRecord}
use Rattle.layout.specs.Text.{lead}

module _ (at : ℕ) (p : PieceRecord) where
  pub lead_new : p.opens_line ≡ true → lead at p ≡ 10 ∷ replicate p.column 32
  lead_new opens = ap (λ (b : Bool). cond b (10 ∷ replicate p.column 32) (replicate (p.column - at) 32)) opens

  pub lead_on : p.opens_line ≡ false → lead at p ≡ replicate (p.column - at) 32
  lead_on stays = ap (λ (b : Bool). cond b (10 ∷ replicate p.column 32) (replicate (p.column - at) 32)) stays

  pub long_new : p.opens_line ≡ true → length (lead at p) ≡ 1 + p.column
  long_new opens = let e = ap length (lead_new opens) in let l = length-replicate {A = ℕ} p.column 32 in omega arith

  pub long_on : p.opens_line ≡ false → length (lead at p) ≡ p.column - at
  long_on stays = let e = ap length (lead_on stays) in let l = length-replicate {A = ℕ} (p.column - at) 32 in omega arith

-- what comes before a piece that opens a line, or does not
pub lead_by : (xs : List ℕ) (n : ℕ) (opens b : Bool) → xs ≡ cond opens (10 ∷ replicate n 32) (replicate n 32) → opens ≡ b
    → xs ≡ cond b (10 ∷ replicate n 32) (replicate n 32)
lead_by xs n opens b is by = is ∙ ap (λ (v : Bool). cond v (10 ∷ replicate n 32) (replicate n 32)) by
