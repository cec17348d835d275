-- Taking trees apart and putting them together.
use Rattle.std.proofs.Common.{◌≡◌, ℕ, zero, suc, ◌+◌, ◌<◌, ◌≤◌, List, [], ◌∷◌, ◌++◌, length, take, drop, sym, subst, append_assoc, arith}
use Rattle.grammar.specs.declared.rule.Child.{Child}
use Rattle.grammar.specs.declared.rule.Child.TheVariants.{Piece, Node}
use Rattle.tree.specs.declared.node.Node.{Node as NodeRecord}
use Rattle.shape.specs.Children.{under}
use Rattle.shape.specs.Shaped.{Shaped, Passes}

-- the node of number k, the pieces before it, and what children cover from it on
pub record Found (cs : List Child) (ns : List NodeRecord) (p k : ℕ) : Type 0 where
  pub first : ℕ
  pub behind : List Child
  pub rest : ℕ
  pub before : Passes cs (take k ns) first behind
  pub from : Shaped (Node ∷ behind) (drop k ns) rest
  pub sum : p ≡ first + rest

pub found_at : {cs : List Child} {ns : List NodeRecord} {p : ℕ} (k : ℕ) → k < length ns → Shaped cs ns p → Found cs ns p k
found_at k h Shaped.none = absurd (omega arith)
found_at k h (Shaped.piece s) =
    let f = found_at k h s in
    record {
      first = suc f.first;
      behind = f.behind;
      rest = f.rest;
      before = Passes.piece f.before;
      from = f.from;
      sum = omega (arith, f.sum);
    }
found_at zero h (Shaped.node {cs = cs} {p = p} s) =
    record { first = 0; behind = cs; rest = p; before = Passes.here; from = Shaped.node s; sum = omega arith }
found_at (suc k) h (Shaped.node s) =
    let f = found_at k (omega arith) s in
    record { first = f.first; behind = f.behind; rest = f.rest; before = Passes.node f.before; from = f.from; sum = f.sum }

-- what children cover, cut between two of them
pub record Divided (cs ds : List Child) (ns : List NodeRecord) (p : ℕ) : Type 0 where
  pub count : ℕ
  pub front : ℕ
  pub back : ℕ
  pub within : count ≤ length ns
  pub left : Shaped cs (take count ns) front
  pub right : Shaped ds (drop count ns) back
  pub sum : p ≡ front + back

pub divide : (cs ds : List Child) (ns : List NodeRecord) (p : ℕ) → Shaped (cs ++ ds) ns p → Divided cs ds ns p
divide [] ds ns p s =
    record { count = 0; front = 0; back = p; within = omega arith; left = Shaped.none; right = s; sum = omega arith }
divide (Piece ∷ cs) ds ns (suc p) (Shaped.piece s) =
    let d = divide cs ds ns p s in
    record {
      count = d.count;
      front = suc d.front;
      back = d.back;
      within = d.within;
      left = Shaped.piece d.left;
      right = d.right;
      sum = omega (arith, d.sum);
    }
divide (Piece ∷ cs) ds ns zero s = elim s [ ]
divide (Node ∷ cs) ds [] p s = elim s [ ]
divide (Node ∷ cs) ds (n ∷ ns) p (Shaped.node s) =
    let d = divide (under n ++ cs) ds ns p
    (subst (λ (es : List Child). Shaped es ns p) (sym (append_assoc (under n) cs ds)) s) in
    record {
      count = suc d.count;
      front = d.front;
      back = d.back;
      within = omega (arith, d.within);
      left = Shaped.node d.left;
      right = d.right;
      sum = d.sum;
    }

pub joined : {cs ds : List Child} {us vs : List NodeRecord} {p q : ℕ} → Shaped cs us p → Shaped ds vs q
    → Shaped (cs ++ ds) (us ++ vs) (p + q)
joined {ds = ds} {vs = vs} {q = q} Shaped.none t = let e : q ≡ 0 + q = omega arith in subst (Shaped ds vs) e t
joined {ds = ds} {vs = vs} {q = q} (Shaped.piece {cs = cs} {ns = us} {p = p} s) t =
    let e : suc (p + q) ≡ suc p + q = omega arith in
    subst (Shaped (Piece ∷ (cs ++ ds)) (us ++ vs)) e (Shaped.piece (joined s t))
joined {ds = ds} {vs = vs} {q = q} (Shaped.node {cs = cs} {n = n} {ns = us} {p = p} s) t =
    Shaped.node (subst (λ (es : List Child). Shaped es (us ++ vs) (p + q)) (append_assoc (under n) cs ds) (joined s t))

pub passed_on : {cs ds : List Child} {us vs : List NodeRecord} {p q : ℕ} → Passes cs us p ds → Shaped (Node ∷ ds) vs q
    → Shaped cs (us ++ vs) (p + q)
passed_on {ds = ds} {vs = vs} {q = q} Passes.here t = let e : q ≡ 0 + q = omega arith in subst (Shaped (Node ∷ ds) vs) e t
passed_on {vs = vs} {q = q} (Passes.piece {cs = cs} {ns = us} {p = p} s) t =
    let e : suc (p + q) ≡ suc p + q = omega arith in
    subst (Shaped (Piece ∷ cs) (us ++ vs)) e (Shaped.piece (passed_on s t))
passed_on (Passes.node s) t = Shaped.node (passed_on s t)
