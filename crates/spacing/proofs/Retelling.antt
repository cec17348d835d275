-- Tokens that are these pieces: their lengths, columns, terminals and bytes.
use Rattle.std.proofs.Common.{◌≡◌, ℕ, List, [], ◌∷◌, ◌++◌, map, length, take, drop, Some, Option, sym, refl, ap, ◌∙◌, arith}
use Rattle.std.specs.List.{flat_map}
use Rattle.std.proofs.lemmas.List.{length-drop, nil_from_length, take-append-drop}
use Rattle.grammar.specs.Model.{Model}
use Rattle.text.specs.declared.token.Token.{Token}
use Rattle.tree.specs.declared.piece.PieceRecord.{PieceRecord}
use Rattle.tree.specs.Pieces.{total}
use Rattle.tree.specs.Terminals.{before, terminals_of}
use Rattle.spacing.specs.Again.{Retold, bytes_at}

module _ (G : Model) (text : List ℕ) where
  pub retold-lengths : (bytes : List ℕ) (ps : List PieceRecord) (ts : List Token) → Retold G text bytes ps ts
      → map (λ (t : Token). t.length) ts ≡ map (λ (p : PieceRecord). p.length) ps
  retold-lengths bytes [] [] r = refl
  retold-lengths bytes [] (t ∷ ts) r = absurd r
  retold-lengths bytes (p ∷ ps) [] r = absurd r
  retold-lengths bytes (p ∷ ps) (t ∷ ts) r =
      let h = r.0.long in
      let rest = retold-lengths (drop p.length bytes) ps ts r.1 in
      cc

  pub retold-columns : (bytes : List ℕ) (ps : List PieceRecord) (ts : List Token) → Retold G text bytes ps ts
      → map (λ (t : Token). t.column) ts ≡ map (λ (p : PieceRecord). p.column) ps
  retold-columns bytes [] [] r = refl
  retold-columns bytes [] (t ∷ ts) r = absurd r
  retold-columns bytes (p ∷ ps) [] r = absurd r
  retold-columns bytes (p ∷ ps) (t ∷ ts) r =
      let h = r.0.column in
      let rest = retold-columns (drop p.length bytes) ps ts r.1 in
      cc

  pub retold-terminals : (bytes : List ℕ) (ps : List PieceRecord) (ts : List Token) → Retold G text bytes ps ts
      → terminals_of G bytes ps ≡ Some (map (λ (t : Token). t.terminal) ts)
  retold-terminals bytes [] [] r = refl
  retold-terminals bytes [] (t ∷ ts) r = absurd r
  retold-terminals bytes (p ∷ ps) [] r = absurd r
  retold-terminals bytes (p ∷ ps) (t ∷ ts) r =
      let rest = terminals_of G (drop p.length bytes) ps in
      ap (λ (o : Option ℕ). before o rest) r.0.terminal
      ∙ ap (before (Some t.terminal)) (retold-terminals (drop p.length bytes) ps ts r.1)

  pub retold-bytes : (bytes : List ℕ) (ps : List PieceRecord) (ts : List Token) → total ps ≡ length bytes
      → Retold G text bytes ps ts → flat_map (bytes_at text) ts ≡ bytes
  retold-bytes bytes [] [] whole r = sym (nil_from_length bytes (sym whole))
  retold-bytes bytes [] (t ∷ ts) whole r = absurd r
  retold-bytes bytes (p ∷ ps) [] whole r = absurd r
  retold-bytes bytes (p ∷ ps) (t ∷ ts) whole r =
      let d = length-drop p.length bytes in
      ap (λ (xs : List ℕ). xs ++ flat_map (bytes_at text) ts) r.0.bytes
      ∙ ap (λ (xs : List ℕ). take p.length bytes ++ xs) (retold-bytes (drop p.length bytes) ps ts (omega arith) r.1)
      ∙ take-append-drop p.length bytes
