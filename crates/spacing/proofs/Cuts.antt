-- The text of pieces that stand apart falls into just these pieces.
use Rattle.std.proofs.Common.{◌≡◌, ℕ, zero, suc, ◌+◌, ◌-◌, ◌<◌, ◌≤◌, Bool, true, false, cond, List, [], ◌∷◌, ◌++◌, length, take, drop}
use Rattle.std.proofs.Common.{replicate, sym, refl, subst, arith}
use Rattle.std.proofs.lemmas.List.{append_assoc, length-drop, length-take-le}
use Rattle.std.proofs.lemmas.Bool.{and_parts}
use Rattle.pieces.specs.Alone.{one_piece}
use Rattle.pieces.specs.Kinds.{digit, goes_on}
use Rattle.pieces.specs.Pieces.{Place, Found, Stops, Reads, Cut, into, start, right, below}
use Rattle.pieces.proofs.Progress.{join}
use Rattle.tree.specs.declared.piece.PieceRecord.{PieceRecord}
use Rattle.tree.specs.Pieces.{total, all_one_piece}
use Rattle.layout.specs.Text.{lead, reached, text}
use Rattle.spacing.specs.Again.{Again}
use Rattle.spacing.specs.Spacing.{Apart}
use Rattle.spacing.proofs.Alone.{stays}

-- behind a piece comes a space or a line end
module _ (test : ℕ → Bool) (at_line : test 10 ≡ false) (at-space : test 32 ≡ false) where
  spaces_stop : (n : ℕ) (rest : List ℕ) → 0 < n → Stops test (replicate n 32 ++ rest)
  spaces_stop zero rest some = absurd (omega arith)
  spaces_stop (suc n) rest some = at-space

  lead_stops : (opens : Bool) (column at : ℕ) (rest : List ℕ) → (opens ≡ false → at < column)
      → Stops test (cond opens (10 ∷ replicate column 32) (replicate (column - at) 32) ++ rest)
  lead_stops true column at rest behind = at_line
  lead_stops false column at rest behind = let h = behind refl in spaces_stop (column - at) rest (omega arith)

  text_stops : (at cursor : ℕ) (ps : List PieceRecord) (bytes : List ℕ) → at < cursor → Apart cursor ps → Stops test (text at ps bytes)
  text_stops at cursor [] bytes past apart = at_line
  text_stops at cursor (p ∷ ps) bytes past apart =
      let w = take p.length bytes in
      let rest = text (reached p) ps (drop p.length bytes) in
      subst (Stops test) (sym (append_assoc (lead at p) w rest))
      (lead_stops p.opens_line p.column at (w ++ rest) (λ e. let h = apart.1 e in omega arith))

-- spaces, and what comes before a piece, lead to its column
spaces : (n : ℕ) (q : Place) (s : List ℕ) → (r : Place) × (r.column ≡ q.column + n) × Reads q (replicate n 32 ++ s) [] r s
spaces zero q s = (q, omega arith, Reads.here)
spaces (suc n) q s =
    let r = spaces n (right 1 q) s in
    let h = r.1 in
    (r.0, omega arith, Reads.space refl r.2)

leads : (opens : Bool) (column : ℕ) (q : Place) (s : List ℕ) → (opens ≡ false → q.column ≤ column)
    → (r : Place) × (r.column ≡ column)
    × Reads q (cond opens (10 ∷ replicate column 32) (replicate (column - q.column) 32) ++ s) [] r s
leads true column q s behind =
    let r = spaces column (below q) s in
    let h = r.1 in
    (r.0, omega arith, Reads.line refl r.2)
leads false column q s behind =
    let r = spaces (column - q.column) q s in
    let h = r.1 in
    let b = behind refl in
    (r.0, omega arith, r.2)

-- the pieces of a text from a place on
pub record CutFrom (q : Place) (text bytes : List ℕ) (ps : List PieceRecord) : Type 0 where
  pub found : List Found
  pub end : Place
  pub reads : Reads q text found end []
  pub again : Again bytes ps found

cuts : (cursor : ℕ) (ps : List PieceRecord) (bytes : List ℕ) (q : Place) → q.column ≤ cursor → Apart cursor ps
    → all_one_piece bytes ps ≡ true → total ps ≤ length bytes → CutFrom q (text q.column ps bytes) bytes ps
cuts cursor [] bytes q within apart alone whole =
    record { found = []; end = below q; reads = Reads.line refl Reads.here; again = tt }
cuts cursor (p ∷ ps) bytes q within apart alone whole =
    let w = take p.length bytes in
    let others = drop p.length bytes in
    let rest = text (reached p) ps others in
    let one = and_parts (one_piece w) (all_one_piece others ps) alone in
    let l = leads p.opens_line p.column q (w ++ rest) (λ e. let h = apart.1 e in omega arith) in
    let r = l.0 in
    let stops = text_stops goes_on refl refl (reached p) (reached p + 1) ps others (omega arith) apart.3 in
    let ends = text_stops digit refl refl (reached p) (reached p + 1) ps others (omega arith) apart.3 in
    let f = stays rest w one.0 stops ends in
    let long = length-take-le p.length bytes (omega arith) in
    let column = l.1 in
    let at : (right (length w) r).column ≡ reached p = omega arith in
    let d = length-drop p.length bytes in
    let k = cuts (reached p + 1) ps others (right (length w) r) (omega arith) apart.3 one.1 (omega arith) in
    let k-reads : Reads (right (length w) r) rest k.found k.end []
    = subst (λ (n : ℕ). Reads (right (length w) r) (text n ps others) k.found k.end []) at k.reads in
    let found = record { place = r; class = f.0; bytes = w } ∷ k.found in
    let piece : Reads r (w ++ rest) found k.end [] = Reads.piece {q = k.end} {ps = k.found} refl f.1 k-reads in
    record {
      found = found;
      end = k.end;
      reads = subst (λ (s : List ℕ). Reads q s found k.end []) (sym (append_assoc (lead q.column p) w rest))
          (join {r = k.end} {qs = found} l.2 piece);
      again = (refl, column, k.again);
    }

pub apart_cut : (ps : List PieceRecord) (bytes : List ℕ) → Apart 0 ps → all_one_piece bytes ps ≡ true → total ps ≡ length bytes
    → (fs : List Found) × Cut (text 0 ps bytes) (into fs) × Again bytes ps fs
apart_cut ps bytes apart alone whole =
    let k = cuts 0 ps bytes start (omega arith) apart alone (omega arith) in
    (k.found, (k.end, k.reads), k.again)
