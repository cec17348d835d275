-- Counting over nodes, one by one.
use Rattle.std.proofs.Common.{◌≡◌, ℕ, zero, suc, ◌+◌, ◌-◌, ◌≤◌, Bool, true, false, cond, leb, List, [], ◌∷◌, ◌++◌, length, take, drop}
use Rattle.std.proofs.Common.{sym, refl, ap, ◌∙◌, subst, arith}
use Rattle.std.specs.List.{fold, sum_by}
use Rattle.std.proofs.lemmas.List.{append_assoc, length-append, take-append-drop}
use Rattle.grammar.specs.declared.rule.Child.{Child}
use Rattle.grammar.specs.declared.rule.Child.TheVariants.{Piece, Node}
use Rattle.tree.specs.declared.node.Node.{Node as NodeRecord}
use Rattle.grammar.specs.declared.several.Several.TheVariants.{One}
use Rattle.shape.specs.declared.count.Path.{Path}
use Rattle.shape.specs.Children.{under, kids, leaves, pieces_in, closes}
use Rattle.shape.specs.Counted.{pieces_before, path, span}

-- what stands for a node past the end
abbrev pub blank : NodeRecord
blank = record { rule = 0; left = 0; shape = One Piece }

before-few : (c : ℕ) (cs : List Child) → pieces_before c cs ≤ leaves cs
before-few c [] = omega arith
before-few c (Piece ∷ cs) = let h = before-few c cs in omega arith
before-few zero (Node ∷ cs) = omega arith
before-few (suc c) (Node ∷ cs) = before-few c cs

few_by : (b : Bool) (k l t p q : ℕ) → q ≤ l
    → ((cond {A = Path} b (record { pieces = p + l; trees = t - k + 1 }) (record { pieces = p + q; trees = 0 })).trees ≤ t + 1)
    × ((cond {A = Path} b (record { pieces = p + l; trees = t - k + 1 }) (record { pieces = p + q; trees = 0 })).pieces ≤ p + l)
few_by true k l t p q h = (omega arith, omega arith)
few_by false k l t p q h = (omega arith, omega arith)

pub path-few : (ns : List NodeRecord) → ((path ns).trees ≤ length ns) × ((path ns).pieces ≤ pieces_in ns)
path-few [] = (omega arith, omega arith)
path-few (n ∷ ns) =
    let h = path-few ns in
    let p = path ns in
    let w = few_by (leb (kids (under n)) p.trees) (kids (under n)) (leaves (under n)) p.trees p.pieces
    (pieces_before p.trees (under n)) (before-few p.trees (under n)) in
    (omega arith, omega arith)

pub closes-few : (k : ℕ) (ns : List NodeRecord) → closes k ns ≡ true → k ≤ length ns
closes-few zero ns e = omega arith
closes-few (suc k) [] e = cc
closes-few (suc k) (n ∷ ns) e = let h = closes-few (kids (under n) + k) ns e in omega arith

pub span-step : (o : ℕ) (n : NodeRecord) (ns : List NodeRecord) → (o ≡ 0 → ⊥)
    → span o (n ∷ ns) ≡ suc (span (o - 1 + kids (under n)) ns)
span-step zero n ns h = absurd (h refl)
span-step (suc o) n ns h =
    let e : kids (under n) + o ≡ suc o - 1 + kids (under n) = omega arith in ap (λ (k : ℕ). suc (span k ns)) e

pub closes-step : (o k : ℕ) (n : NodeRecord) (ns : List NodeRecord) → (o ≡ 0 → ⊥) → closes (o + k) (n ∷ ns) ≡ true
    → closes (o - 1 + kids (under n) + k) ns ≡ true
closes-step zero k n ns h e = absurd (h refl)
closes-step (suc o) k n ns h e =
    let s : suc o + k ≡ suc (o + k) = omega arith in
    let t : closes (suc (o + k)) (n ∷ ns) ≡ true = subst (λ (m : ℕ). closes m (n ∷ ns) ≡ true) s e in
    let u : kids (under n) + (o + k) ≡ suc o - 1 + kids (under n) + k = omega arith in
    subst (λ (m : ℕ). closes m ns ≡ true) u t

pub span_zero : (ns : List NodeRecord) → span 0 ns ≡ 0
span_zero [] = refl
span_zero (n ∷ ns) = refl

pub pieces-append : (ms ns : List NodeRecord) → pieces_in (ms ++ ns) ≡ pieces_in ms + pieces_in ns
pieces-append [] ns = omega arith
pieces-append (m ∷ ms) ns = let h = pieces-append ms ns in omega arith

pub pieces-take : (ns : List NodeRecord) (i : ℕ) → pieces_in (take i ns) ≤ pieces_in ns
pieces-take ns i =
    let s = ap pieces_in (take-append-drop i ns) in
    let a = pieces-append (take i ns) (drop i ns) in
    omega arith

pub pieces-drop : (ns : List NodeRecord) (i : ℕ) → pieces_in (drop i ns) ≤ pieces_in ns
pieces-drop ns i =
    let s = ap pieces_in (take-append-drop i ns) in
    let a = pieces-append (take i ns) (drop i ns) in
    omega arith

-- from the back, one node more
module _ (ns left rest seen : List NodeRecord) (n : NodeRecord) (all : ns ≡ left ++ seen) (next : left ≡ rest ++ n ∷ []) where
  pub one_back : ns ≡ rest ++ n ∷ seen
  one_back = all ∙ ap (λ (ms : List NodeRecord). ms ++ seen) next ∙ append_assoc rest (n ∷ []) seen

  pub back-few : ((path seen).pieces ≤ pieces_in ns) × ((path seen).trees + 1 ≤ length ns)
  back-few =
      let f = path-few seen in
      let p = ap pieces_in all in
      let a = pieces-append left seen in
      let l = ap length one_back in
      let b = length-append rest (n ∷ seen) in
      (omega arith, omega arith)

pub none_left : (ns left seen : List NodeRecord) → ns ≡ left ++ seen → length left ≡ 0 → seen ≡ ns
none_left ns [] seen all none = sym all
none_left ns (n ∷ left) seen all none = absurd (omega arith)

-- nothing seen yet
abbrev seen_path : ℕ → ℕ → Path
seen_path p t = record { pieces = p; trees = t }

pub none_seen : (p : Path) → (p.pieces ≡ 0) × (p.trees ≡ 0) → p ≡ path []
none_seen p (pieces, trees) = let e : seen_path p.pieces p.trees ≡ seen_path 0 0 = cc in e

-- the pieces under nodes, added up
sum-on : (ns : List NodeRecord) (k : ℕ) → fold (λ (a : ℕ) (n : NodeRecord). a + leaves (under n)) k ns ≡ k + pieces_in ns
sum-on [] k = omega arith
sum-on (n ∷ ns) k = let h = sum-on ns (k + leaves (under n)) in omega arith

pub pieces_sum : (ns : List NodeRecord) → sum_by (λ (n : NodeRecord). leaves (under n)) ns ≡ pieces_in ns
pieces_sum ns = let h = sum-on ns 0 in omega arith
