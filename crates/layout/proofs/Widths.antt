-- How many bytes a text has.
use Rattle.std.proofs.Common.{◌≡◌, ℕ, zero, suc, ◌+◌, ◌<◌, ◌≤◌, List, [], ◌∷◌, ◌++◌, length, get_or, take, drop, refl, arith}
use Rattle.std.proofs.lemmas.List.{at_drop_more, at_drop_all, length-append, length-take-le, length-drop}
use Rattle.tree.specs.declared.piece.PieceRecord.{PieceRecord}
use Rattle.tree.specs.Pieces.{total, longest}
use Rattle.tree.proofs.Naming.{blank}
use Rattle.layout.specs.Text.{lead, reached, text, width}

pub width-next : (ps : List PieceRecord) (at i : ℕ) → i < length ps
    → width at (drop i ps) ≡ (length (lead at (get_or ps i blank)) + (get_or ps i blank).length) + width (reached (get_or ps i blank))
    (drop (i + 1) ps)
width-next ps at i here = at_drop_more (width at) ps i blank here

pub width-end : (ps : List PieceRecord) (at i : ℕ) → length ps ≤ i → width at (drop i ps) ≡ 1
width-end ps at i end = at_drop_all (width at) ps i end

pub short : (ps : List PieceRecord) (i : ℕ) → i < length ps → longest ps ≤ 32 → (get_or ps i blank).length ≤ 32
short [] i here all = absurd (omega arith)
short (p ∷ ps) zero here all = omega arith
short (p ∷ ps) (suc i) here all = short ps i (omega arith) (omega arith)

pub text_wide : (at : ℕ) (ps : List PieceRecord) (bytes : List ℕ) → total ps ≤ length bytes → length (text at ps bytes) ≡ width at ps
text_wide at [] bytes all = refl
text_wide at (p ∷ ps) bytes all =
    let d = length-drop p.length bytes in
    let t = length-take-le p.length bytes (omega arith) in
    let a = length-append (lead at p ++ take p.length bytes) (text (reached p) ps (drop p.length bytes)) in
    let b = length-append (lead at p) (take p.length bytes) in
    let h = text_wide (reached p) ps (drop p.length bytes) (omega arith) in
    omega arith
