-- The text of pieces that stand apart keeps the limit on texts.
use Rattle.std.proofs.Common.{◌≡◌, ℕ, ◌+◌, ◌*◌, ◌≤◌, List, [], ◌∷◌, length, refl, inl, inr, arith}
use Rattle.std.proofs.lemmas.Bool.{cases_Bool}
use Rattle.tree.specs.declared.piece.PieceRecord.{PieceRecord}
use Rattle.tree.specs.Pieces.{total, longest}
use Rattle.layout.specs.Text.{lead, reached, text, width}
use Rattle.layout.proofs.Leads.{long_new, long_on}
use Rattle.layout.proofs.Widths.{text_wide}
use Rattle.spacing.specs.Spacing.{Apart}

lead-short : (at : ℕ) (p : PieceRecord) → length (lead at p) ≤ 1 + p.column
lead-short at p = elim (cases_Bool p.opens_line) [
  | inl e ↦ omega (arith, long_new at p e)
  | inr e ↦ omega (arith, long_on at p e)
]

-- a line end, 63 spaces and 32 bytes for each piece, and the last line end
narrow : (at cursor : ℕ) (ps : List PieceRecord) → Apart cursor ps → longest ps ≤ 32 → width at ps ≤ 96 * length ps + 1
narrow at cursor [] apart short = omega arith
narrow at cursor (p ∷ ps) apart short =
    let column = apart.0 in
    let lead = lead-short at p in
    let rest = narrow (reached p) (p.column + p.length + 1) ps apart.3 (omega arith) in
    omega arith

-- of these the first opens no line
pub apart_narrow : (ps : List PieceRecord) → Apart 0 ps → longest ps ≤ 32 → length ps ≤ 128 → width 0 ps ≤ 12288
apart_narrow [] apart short few = omega arith
apart_narrow (p ∷ ps) apart short few =
    let column = apart.0 in
    let lead = long_on 0 p (apart.2 refl) in
    let rest = narrow (reached p) (p.column + p.length + 1) ps apart.3 (omega arith) in
    omega arith

pub apart_short : (ps : List PieceRecord) (bytes : List ℕ) → Apart 0 ps → length ps ≤ 128 → longest ps ≤ 32 → total ps ≡ length bytes
    → length (text 0 ps bytes) ≤ 12288
apart_short ps bytes apart few short whole =
    let wide = text_wide 0 ps bytes (omega arith) in
    let narrow = apart_narrow ps apart short few in
    omega arith
