-- One writing after another.
use Rattle.std.proofs.Common.{◌≡◌, ℕ, ◌+◌, ◌-◌, ◌≤◌, List, [], ◌++◌, take, drop, sym, refl, ap, ◌∙◌, arith}
use Rattle.std.proofs.lemmas.List.{append_assoc, append-nil, length-append, drop-drop}
use Rattle.layout.specs.declared.line_writer.LineWriter.{LineWriter}
use Rattle.layout.specs.Writers.{Wrote}

pub further : {X : Type 0} (a b : List X) (i j : ℕ) → i ≤ j → drop i a ≡ drop i b → drop j a ≡ drop j b
further a b i j le e =
    let n : i + (j - i) ≡ j = omega arith in
    let p = drop-drop (j - i) i a in
    let q = drop-drop (j - i) i b in
    let r = ap (drop (j - i)) e in
    let s = ap (λ (k : ℕ). drop k a) n in
    let t = ap (λ (k : ℕ). drop k b) n in
    cc

pub wrote_on : (w v u : LineWriter) (xs ys : List ℕ) → Wrote w v xs → Wrote v u ys → Wrote w u (xs ++ ys)
wrote_on w v u xs ys a b =
    let l = length-append xs ys in
    let p = a.position in
    let q = b.position in
    record {
      position = omega arith;
      same = b.same ∙ a.same;
      room = b.room ∙ a.room;
      front = b.front ∙ ap (λ (zs : List ℕ). zs ++ ys) a.front ∙ append_assoc (take w.position w.out.now) xs ys;
      rest = b.rest ∙ further v.out.now w.out.now v.position u.position (omega arith) a.rest;
    }

-- nothing yet
pub wrote_none : (w : LineWriter) → Wrote w w []
wrote_none w =
    record {
      position = omega arith;
      same = refl;
      room = refl;
      front = sym (append-nil (take w.position w.out.now));
      rest = refl;
    }

-- whatever column the line has then reached
pub wrote_reached : (w v : LineWriter) (xs : List ℕ) (n : ℕ) → Wrote w v xs
    → Wrote w (record { out = v.out; position = v.position; reached = n }) xs
wrote_reached w v xs n a =
    record {
      position = a.position;
      same = a.same;
      room = a.room;
      front = a.front;
      rest = a.rest;
    }
