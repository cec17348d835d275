-- Trees by node records: what closes is a tree, and a walk passes what is counted.
use Rattle.std.proofs.Common.{◌≡◌, ℕ, zero, suc, ◌+◌, ◌-◌, ◌<◌, ◌≤◌, Bool, true, false, cond, leb, List, [], ◌∷◌, ◌++◌, length, sym, refl}
use Rattle.std.proofs.Common.{ap, ◌∙◌, subst, arith}
use Rattle.std.proofs.lemmas.Bool.{leb-true, leb-false}
use Rattle.grammar.specs.declared.rule.Child.{Child}
use Rattle.grammar.specs.declared.rule.Child.TheVariants.{Piece, Node}
use Rattle.tree.specs.declared.node.Node.{Node as NodeRecord}
use Rattle.shape.specs.declared.count.Path.{Path}
use Rattle.shape.specs.Children.{under, kids, leaves, pieces_in, closes}
use Rattle.shape.specs.Counted.{pieces_before, path, span}
use Rattle.shape.specs.Shaped.{Shaped, Passes, tree}

pub kids-append : (cs ds : List Child) → kids (cs ++ ds) ≡ kids cs + kids ds
kids-append [] ds = omega arith
kids-append (Piece ∷ cs) ds = kids-append cs ds
kids-append (Node ∷ cs) ds = let h = kids-append cs ds in omega arith

pub leaves-append : (cs ds : List Child) → leaves (cs ++ ds) ≡ leaves cs + leaves ds
leaves-append [] ds = omega arith
leaves-append (Piece ∷ cs) ds = let h = leaves-append cs ds in omega arith
leaves-append (Node ∷ cs) ds = leaves-append cs ds

-- what closes is what these children cover
pub shaped_of : (cs : List Child) (ns : List NodeRecord) → closes (kids cs) ns ≡ true → Shaped cs ns (leaves cs + pieces_in ns)
shaped_of [] [] e = Shaped.none
shaped_of [] (n ∷ ns) e = cc
shaped_of (Piece ∷ cs) ns e =
    let q : suc (leaves cs + pieces_in ns) ≡ suc (leaves cs) + pieces_in ns = omega arith in
    subst (Shaped (Piece ∷ cs) ns) q (Shaped.piece (shaped_of cs ns e))
shaped_of (Node ∷ cs) [] e = cc
shaped_of (Node ∷ cs) (n ∷ ns) e =
    let k : closes (kids (under n ++ cs)) ns ≡ true = subst (λ (m : ℕ). closes m ns ≡ true) (sym (kids-append (under n) cs)) e in
    let l = leaves-append (under n) cs in
    let q : leaves (under n ++ cs) + pieces_in ns ≡ leaves cs + (leaves (under n) + pieces_in ns) = omega arith in
    Shaped.node (subst (Shaped (under n ++ cs) ns) q (shaped_of (under n ++ cs) ns k))

-- and what children cover closes
pub shaped_closes : {cs : List Child} {ns : List NodeRecord} {p : ℕ} → Shaped cs ns p
    → (closes (kids cs) ns ≡ true) × (p ≡ leaves cs + pieces_in ns)
shaped_closes Shaped.none = (refl, refl)
shaped_closes (Shaped.piece s) = let h = shaped_closes s in (h.0, omega (arith, h.1))
shaped_closes (Shaped.node {cs = cs} {n = n} {ns = ns} s) =
    let h = shaped_closes s in
    let l = leaves-append (under n) cs in
    (subst (λ (m : ℕ). closes m ns ≡ true) (kids-append (under n) cs) h.0, omega (arith, h.1))

-- a whole list of nodes spans itself
pub span-all : {cs : List Child} {us : List NodeRecord} {p : ℕ} (vs : List NodeRecord) → Shaped cs us p
    → span (kids cs) (us ++ vs) ≡ length us
span-all [] Shaped.none = refl
span-all (v ∷ vs) Shaped.none = refl
span-all vs (Shaped.piece s) = span-all vs s
span-all vs (Shaped.node {cs = cs} {n = n} {ns = ns} s) =
    let h = span-all vs s in
    let e = ap (λ (m : ℕ). span m (ns ++ vs)) (kids-append (under n) cs) in
    omega arith

-- the pieces before a node among more children
before-all : (k : ℕ) (cs ds : List Child) → kids cs ≤ k → pieces_before k (cs ++ ds) ≡ leaves cs + pieces_before (k - kids cs) ds
before-all k [] ds h = let e : k ≡ k - 0 = omega arith in ap (λ (m : ℕ). pieces_before m ds) e ∙ omega arith
before-all k (Piece ∷ cs) ds h = let e = before-all k cs ds h in omega arith
before-all zero (Node ∷ cs) ds h = absurd (omega arith)
before-all (suc k) (Node ∷ cs) ds h =
    let e = before-all k cs ds (omega arith) in
    let m : k - kids cs ≡ suc k - suc (kids cs) = omega arith in
    e ∙ ap (λ (m : ℕ). leaves cs + pieces_before m ds) m

before-some : (k : ℕ) (cs ds : List Child) → k < kids cs → pieces_before k (cs ++ ds) ≡ pieces_before k cs
before-some k [] ds h = absurd (omega arith)
before-some k (Piece ∷ cs) ds h = let e = before-some k cs ds h in omega arith
before-some zero (Node ∷ cs) ds h = refl
before-some (suc k) (Node ∷ cs) ds h = before-some k cs ds (omega arith)

-- what is counted from a path on, among these children
abbrev Counts : Path → ℕ → List Child → Type 0
Counts p q cs = (q ≡ p.pieces + pieces_before p.trees cs) × (p.trees < kids cs)

counts_by : (b : Bool) (us cs : List Child) (p : Path) (q : ℕ) → leb (kids us) p.trees ≡ b → Counts p q (us ++ cs)
    → Counts (cond b (record { pieces = p.pieces + leaves us; trees = p.trees - kids us + 1 })
    (record { pieces = p.pieces + pieces_before p.trees us; trees = 0 })) q (Node ∷ cs)
counts_by true us cs p q e (is, low) =
    let h = leb-true (kids us) p.trees e in
    let a = before-all p.trees us cs h in
    let k = kids-append us cs in
    let s : p.trees - kids us + 1 ≡ suc (p.trees - kids us) = omega arith in
    let b = ap (λ (m : ℕ). pieces_before m (Node ∷ cs)) s in
    (omega arith, omega arith)
counts_by false us cs p q e (is, low) =
    let h = leb-false (kids us) p.trees e in
    let a = before-some p.trees us cs h in
    (omega arith, omega arith)

pub passes_counted : {cs ds : List Child} {us : List NodeRecord} {q : ℕ} → Passes cs us q ds → Counts (path us) q cs
passes_counted Passes.here = (omega arith, omega arith)
passes_counted (Passes.piece s) = let h = passes_counted s in (omega (arith, h.0), h.1)
passes_counted (Passes.node {cs = cs} {n = n} {ns = us} {p = q} s) =
    counts_by (leb (kids (under n)) (path us).trees) (under n) cs (path us) q refl (passes_counted s)

-- the pieces before a node of a tree
pub passes_first : {ds : List Child} {us : List NodeRecord} {q : ℕ} → Passes tree us q ds → q ≡ (path us).pieces
passes_first {us = us} s =
    let h = passes_counted s in
    let z : (path us).trees ≡ 0 = omega (arith, h.1) in
    let e = ap (λ (m : ℕ). pieces_before m tree) z in
    omega (arith, h.0)
