-- What is told of a node of one tree.
use Rattle.std.proofs.Common.{◌≡◌, ℕ, suc, ◌+◌, ◌<◌, ◌≤◌, true, List, [], ◌∷◌, length, take, drop, Some, None, Option, sym, refl, ap, ◌∙◌}
use Rattle.std.proofs.Common.{subst, arith}
use Rattle.std.specs.List.{slice_get}
use Rattle.std.proofs.lemmas.List.{length-drop, length-take-le, take-append-drop}
use Rattle.std.proofs.lemmas.Option.{slice_get_past}
use Rattle.tree.specs.declared.node.Node.{Node}
use Rattle.shape.specs.declared.facts.NodeFacts.{NodeFacts}
use Rattle.shape.specs.Children.{under, kids, pieces_in, closes, one_tree}
use Rattle.shape.specs.Counted.{path, span}
use Rattle.shape.specs.Shaped.{Shaped, Passes, tree}
use Rattle.shape.specs.Told.{Told, ToldOnce}
use Rattle.shape.proofs.Trees.{shaped_of, shaped_closes, span-all, passes_first}
use Rattle.shape.proofs.Parts.{Found, found_at, Divided, divide}

-- nodes of one tree are a tree over the pieces under them
pub whole-tree : (ns : List Node) → one_tree ns ≡ true → 0 < length ns → Shaped tree ns (pieces_in ns)
whole-tree [] one h = absurd (omega arith)
whole-tree (n ∷ ns) one h =
    let e : kids (under n) ≡ kids (under n) + 0 = omega arith in
    let s = shaped_of tree (n ∷ ns) (subst (λ (m : ℕ). closes m ns ≡ true) e one) in
    let z : 0 + pieces_in (n ∷ ns) ≡ pieces_in (n ∷ ns) = omega arith in
    subst (Shaped tree (n ∷ ns)) z s

-- a tree at the front of a list spans its own nodes
pub front-span : (ns : List Node) (m p : ℕ) → m ≤ length ns → Shaped tree (take m ns) p → span 1 ns ≡ m
front-span ns m p h s =
    let l = length-take-le m ns h in
    let e = span-all (drop m ns) s in
    let j = ap (span 1) (take-append-drop m ns) in
    omega arith

module _ (ns : List Node) (k : ℕ) (one : one_tree ns ≡ true) (h : k < length ns) where
  here : Found tree ns (pieces_in ns) k
  here = found_at k h (whole-tree ns one (omega arith))

  part : Divided tree here.behind (drop k ns) here.rest
  part = divide tree here.behind (drop k ns) here.rest here.from

  pub closes_from : (x : ℕ) × (closes (x + 1) (drop k ns) ≡ true)
  closes_from =
      let x = kids here.behind in
      let e : suc x ≡ x + 1 = omega arith in
      (x, subst (λ (m : ℕ). closes m (drop k ns) ≡ true) e (shaped_closes here.from).0)

  span-is : span 1 (drop k ns) ≡ part.count
  span-is = front-span (drop k ns) part.count part.front part.within part.left

  pub span-within : k + span 1 (drop k ns) ≤ length ns
  span-within = let l = length-drop k ns in omega (arith, span-is, part.within)

  pub told : (n : Node) → slice_get ns k ≡ Some n → Told ns k (record {
    rule = n.rule;
    left = n.left;
    first_piece = (path (take k ns)).pieces;
    piece_count = pieces_in (take (span 1 (drop k ns)) (drop k ns));
    node_count = span 1 (drop k ns);
  })
  told n is =
      let s = subst (λ (m : ℕ). Shaped tree (take m (drop k ns)) part.front) (sym span-is) part.left in
      let p : part.front ≡ pieces_in (take (span 1 (drop k ns)) (drop k ns)) = (shaped_closes s).1 ∙ omega arith in
      record {
        node = n;
        is = is;
        rule = refl;
        left = refl;
        behind = here.behind;
        before = subst (λ (m : ℕ). Passes tree (take k ns) m here.behind) (passes_first here.before) here.before;
        within = span-within;
        covers = subst (Shaped tree (take (span 1 (drop k ns)) (drop k ns))) p s;
      }

abbrev facts : ℕ → ℕ → ℕ → ℕ → ℕ → NodeFacts
facts r l p q m = record { rule = r; left = l; first_piece = p; piece_count = q; node_count = m }

same-node : (o : Option Node) (m n : Node) → o ≡ Some m → o ≡ Some n → m ≡ n
same-node o m n p q = cc

told_same : (ns : List Node) (k : ℕ) (f g : NodeFacts) → Told ns k f → Told ns k g → f ≡ g
told_same ns k f g a b =
    let n = same-node (slice_get ns k) a.node b.node a.is b.is in
    let r : f.rule ≡ g.rule = a.rule ∙ ap (λ (m : Node). m.rule) n ∙ sym b.rule in
    let l : f.left ≡ g.left = a.left ∙ ap (λ (m : Node). m.left) n ∙ sym b.left in
    let p : f.first_piece ≡ g.first_piece = passes_first a.before ∙ sym (passes_first b.before) in
    let d = length-drop k ns in
    let x = front-span (drop k ns) f.node_count f.piece_count (omega (arith, a.within)) a.covers in
    let y = front-span (drop k ns) g.node_count g.piece_count (omega (arith, b.within)) b.covers in
    let m : f.node_count ≡ g.node_count = sym x ∙ y in
    let u = (shaped_closes a.covers).1 in
    let v = (shaped_closes b.covers).1 in
    let w = ap (λ (j : ℕ). pieces_in (take j (drop k ns))) m in
    let q : f.piece_count ≡ g.piece_count = omega arith in
    let e : facts f.rule f.left f.first_piece f.piece_count f.node_count
    ≡ facts g.rule g.left g.first_piece g.piece_count g.node_count = cc in
    e

pub told-once : ToldOnce
told-once ns k None None a b = refl
told-once ns k None (Some g) a b = let e = slice_get_past ns k a in cc b.is
told-once ns k (Some f) None a b = let e = slice_get_past ns k b in cc a.is
told-once ns k (Some f) (Some g) a b = ap Some (told_same ns k f g a b)
