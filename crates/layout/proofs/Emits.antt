-- The text of the pieces, one piece after another.
use Rattle.std.proofs.Common.{◌≡◌, ℕ, List, [], ◌∷◌, ◌++◌, take, drop, sym, refl, ap, ◌∙◌}
use Rattle.std.proofs.lemmas.List.{append_assoc}
use Rattle.tree.specs.declared.piece.PieceRecord.{PieceRecord}
use Rattle.tree.specs.Parts.{parts}
use Rattle.layout.specs.Text.{lead, reached, text}

-- what is written of pieces with their bytes from a column on
abbrev pub written : ℕ → List (PieceRecord × List ℕ) → List ℕ
written at [] = 10 ∷ []
written at (x ∷ xs) = (lead at x.0 ++ x.1) ++ written (reached x.0) xs

pub written_text : (at : ℕ) (ps : List PieceRecord) (bytes : List ℕ) → written at (parts bytes ps) ≡ text at ps bytes
written_text at [] bytes = refl
written_text at (p ∷ ps) bytes =
    ap (λ (xs : List ℕ). (lead at p ++ take p.length bytes) ++ xs) (written_text (reached p) ps (drop p.length bytes))

-- one piece more
pub one_more : (done all : List ℕ) (at : ℕ) (x : PieceRecord × List ℕ) (left rest : List (PieceRecord × List ℕ)) → left ≡ x ∷ rest
    → done ++ written at left ≡ all → (done ++ (lead at x.0 ++ x.1)) ++ written (reached x.0) rest ≡ all
one_more done all at x left rest next so_far =
    append_assoc done (lead at x.0 ++ x.1) (written (reached x.0) rest)
    ∙ ap (λ (xs : List (PieceRecord × List ℕ)). done ++ written at xs) (sym next) ∙ so_far
