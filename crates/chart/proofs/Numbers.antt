-- A tree is given by its rule numbers in preorder, and such numbers are those of a tree.
use Rattle.std.proofs.Common.{◌≡◌, ℕ, zero, suc, ◌+◌, List, [], ◌∷◌, ◌++◌, length, drop, Some, sym, refl, ap, ◌∙◌, subst, ap₂}
use Rattle.std.proofs.Common.{append_assoc, arith}
use Rattle.std.proofs.lemmas.List.{append-nil, drop_all}
use Rattle.std.specs.List.{slice_get}
use Rattle.grammar.specs.declared.rule.Symbol.TheVariants.{Nonterminal}
use Rattle.grammar.specs.declared.rule.Item.{Item}
use Rattle.grammar.specs.declared.rule.Rule.{Rule}
use Rattle.grammar.specs.Model.{Model}
use Rattle.grammar.specs.Several.{listed}
use Rattle.tree.specs.Forest.{Forest}
use Rattle.chart.specs.Trees.{Tree, Children, width, widths, preorder, preorders, Covers, Divide}
use Rattle.chart.specs.Numbers.{TreeNumbers, NumbersOne, NumbersTree}
use Rattle.chart.proofs.Rows.{same_some}
use Rattle.chart.proofs.Once.{not_both_kinds}

drop-some : (ks : List ℕ) (i a : ℕ) → slice_get ks i ≡ Some a → drop i ks ≡ a ∷ drop (suc i) ks
drop-some [] i a e = let z : ◌≡◌ {A = ℕ} 0 1 = cc in absurd (omega arith)
drop-some (k ∷ ks) zero a e = let q : k ≡ a = cc in ap (λ (y : ℕ). y ∷ ks) q
drop-some (k ∷ ks) (suc i) a e = drop-some ks i a e

some-drop : (ks : List ℕ) (i a : ℕ) (us : List ℕ) → drop i ks ≡ a ∷ us → (slice_get ks i ≡ Some a) × (drop (suc i) ks ≡ us)
some-drop [] zero a us e = let z : ◌≡◌ {A = ℕ} 0 1 = cc in absurd (omega arith)
some-drop [] (suc i) a us e = let z : ◌≡◌ {A = ℕ} 0 1 = cc in absurd (omega arith)
some-drop (k ∷ ks) zero a us e = let q : k ≡ a = cc in let r : ks ≡ us = cc in (ap Some q, r)
some-drop (k ∷ ks) (suc i) a us e = some-drop ks i a us e

module _ (G : Model) (ks : List ℕ) where
  mutual
    covers-numbers : (t : Tree) (b i : ℕ) (x : Item) (xs : List Item) (rs : List ℕ) → x.symbol ≡ Nonterminal b → Covers G ks t b i
        → Forest G xs rs (drop (i + width t) ks) → Forest G (x ∷ xs) (preorder t ++ rs) (drop i ks)
    covers-numbers (Tree.node r cs) b i x xs rs e (rule, n, l, d) f =
        Forest.node n (e ∙ ap Nonterminal (sym l)) (divide_numbers cs (listed rule.items) xs rs i d f)

    divide_numbers : (cs : Children) (ys xs : List Item) (rs : List ℕ) (i : ℕ) → Divide G ks cs ys i
        → Forest G xs rs (drop (i + widths cs) ks) → Forest G (ys ++ xs) (preorders cs ++ rs) (drop i ks)
    divide_numbers Children.none [] xs rs i d f =
        let e : i + 0 ≡ i = omega arith in subst (λ (m : ℕ). Forest G xs rs (drop m ks)) e f
    divide_numbers Children.none (y ∷ ys) xs rs i d f = absurd d
    divide_numbers (Children.piece cs) [] xs rs i d f = absurd d
    divide_numbers (Children.piece cs) (y ∷ ys) xs rs i (a, e, n, d) f =
        let o : i + suc (widths cs) ≡ suc i + widths cs = omega arith in
        let g = divide_numbers cs ys xs rs (suc i) d (subst (λ (m : ℕ). Forest G xs rs (drop m ks)) o f) in
        subst (λ (us : List ℕ). Forest G (y ∷ (ys ++ xs)) (preorders cs ++ rs) us) (sym (drop-some ks i a n)) (Forest.piece e g)
    divide_numbers (Children.tree t cs) [] xs rs i d f = absurd d
    divide_numbers (Children.tree t cs) (y ∷ ys) xs rs i (b, e, c, d) f =
        let o : i + (width t + widths cs) ≡ (i + width t) + widths cs = omega arith in
        let g = divide_numbers cs ys xs rs (i + width t) d (subst (λ (m : ℕ). Forest G xs rs (drop m ks)) o f) in
        subst (λ (us : List ℕ). Forest G (y ∷ (ys ++ xs)) us (drop i ks)) (sym (append_assoc (preorder t) (preorders cs) rs))
        (covers-numbers t b i y (ys ++ xs) (preorders cs ++ rs) e c g)

  -- the children of a row of items, cut between two of them
  divide_cut : (cs : Children) (ys xs : List Item) (i : ℕ) → Divide G ks cs (ys ++ xs) i
      → (us : Children) × (vs : Children) × Divide G ks us ys i × Divide G ks vs xs (i + widths us)
      × (widths cs ≡ widths us + widths vs) × (preorders cs ≡ preorders us ++ preorders vs)
  divide_cut cs [] xs i d =
      let e : i ≡ i + 0 = omega arith in
      (Children.none, cs, tt, subst (Divide G ks cs xs) e d, omega arith, refl)
  divide_cut Children.none (y ∷ ys) xs i d = absurd d
  divide_cut (Children.piece cs) (y ∷ ys) xs i (a, e, n, d) =
      let q = divide_cut cs ys xs (suc i) d in
      let o : suc i + widths q.0 ≡ i + suc (widths q.0) = omega arith in
      (Children.piece q.0, q.1, (a, e, n, q.2), subst (Divide G ks q.1 xs) o q.3, omega (arith, q.4), q.5)
  divide_cut (Children.tree t cs) (y ∷ ys) xs i (b, e, c, d) =
      let q = divide_cut cs ys xs (i + width t) d in
      let o : (i + width t) + widths q.0 ≡ i + (width t + widths q.0) = omega arith in (
        Children.tree t q.0,
        q.1,
        (b, e, c, q.2),
        subst (Divide G ks q.1 xs) o q.3,
        omega (arith, q.4),
        ap (λ (us : List ℕ). preorder t ++ us) q.5 ∙ sym (append_assoc (preorder t) (preorders q.0) (preorders q.1)),
      )

  numbers_divide : {xs : List Item} {rs us : List ℕ} → Forest G xs rs us → (i : ℕ) → drop i ks ≡ us
      → (cs : Children) × Divide G ks cs xs i × (widths cs ≡ length us) × (preorders cs ≡ rs)
  numbers_divide Forest.none i e = (Children.none, tt, refl, refl)
  numbers_divide (Forest.piece {ts = us} {t = a} s f) i e =
      let n = some-drop ks i a us e in
      let q = numbers_divide f (suc i) n.1 in
      (Children.piece q.0, (a, s, n.0, q.1), omega (arith, q.2), q.3)
  numbers_divide (Forest.node {xs = xs} {ts = us} {r = r} {rule = rule} n s f) i e =
      let q = numbers_divide f i e in
      let c = divide_cut q.0 (listed rule.items) xs i q.1 in (
        Children.tree (Tree.node r c.0) c.1,
        (rule.left, s, (rule, n, refl, c.2), c.3),
        omega (arith, c.4, q.2),
        ap (λ (rs : List ℕ). r ∷ rs) (sym c.5 ∙ q.3),
      )

  -- ---- the numbers tell the tree, and where it ends

  mutual
    covers_one : (t u : Tree) (A B i k : ℕ) (rs ss : List ℕ) → Covers G ks t A i → Covers G ks u B k → preorder t ++ rs ≡ preorder u ++ ss
        → (t ≡ u) × (rs ≡ ss)
    covers_one (Tree.node r cs) (Tree.node q ds) A B i k rs ss (rule, n, l, c) (rule', n', l', d) e =
        let o : q ≡ r = cc in
        let v : preorders cs ++ rs ≡ preorders ds ++ ss = cc in
        let w : rule' ≡ rule = same_some (slice_get G.rules r) rule' rule (subst (λ (m : ℕ). slice_get G.rules m ≡ Some rule') o n') n in
        let z = divide_one cs ds (listed rule.items) i k rs ss c (subst (λ (y : Rule). Divide G ks ds (listed y.items) k) w d) v in
        (ap₂ Tree.node (sym o) z.0, z.1)

    divide_one : (cs ds : Children) (xs : List Item) (i k : ℕ) (rs ss : List ℕ) → Divide G ks cs xs i → Divide G ks ds xs k
        → preorders cs ++ rs ≡ preorders ds ++ ss → (cs ≡ ds) × (rs ≡ ss)
    divide_one Children.none Children.none xs i k rs ss c d e = (refl, e)
    divide_one Children.none (Children.piece ds) [] i k rs ss c d e = absurd d
    divide_one Children.none (Children.piece ds) (x ∷ xs) i k rs ss c d e = absurd c
    divide_one Children.none (Children.tree u ds) [] i k rs ss c d e = absurd d
    divide_one Children.none (Children.tree u ds) (x ∷ xs) i k rs ss c d e = absurd c
    divide_one (Children.piece cs) ds [] i k rs ss c d e = absurd c
    divide_one (Children.piece cs) Children.none (x ∷ xs) i k rs ss c d e = absurd d
    divide_one (Children.piece cs) (Children.piece ds) (x ∷ xs) i k rs ss c d e =
        let z = divide_one cs ds xs (suc i) (suc k) rs ss c.3 d.3 e in (ap Children.piece z.0, z.1)
    divide_one (Children.piece cs) (Children.tree u ds) (x ∷ xs) i k rs ss c d e = absurd (not_both_kinds x.symbol c.0 d.0 c.1 d.1)
    divide_one (Children.tree t cs) ds [] i k rs ss c d e = absurd c
    divide_one (Children.tree t cs) Children.none (x ∷ xs) i k rs ss c d e = absurd d
    divide_one (Children.tree t cs) (Children.piece ds) (x ∷ xs) i k rs ss c d e = absurd (not_both_kinds x.symbol d.0 c.0 d.1 c.1)
    divide_one (Children.tree t cs) (Children.tree u ds) (x ∷ xs) i k rs ss c d e =
        let f : preorder t ++ (preorders cs ++ rs) ≡ preorder u ++ (preorders ds ++ ss) =
        sym (append_assoc (preorder t) (preorders cs) rs) ∙ e ∙ append_assoc (preorder u) (preorders ds) ss in
        let y = covers_one t u c.0 d.0 i k (preorders cs ++ rs) (preorders ds ++ ss) c.2 d.2 f in
        let z = divide_one cs ds xs (i + width t) (k + width u) rs ss c.3 d.3 y.1 in
        (ap₂ Children.tree y.0 z.0, z.1)

pub all-numbers : TreeNumbers
all-numbers G ks (Tree.node r cs) A (rule, n, l, d) w =
    let z : drop (0 + widths cs) ks ≡ [] = drop_all (0 + widths cs) ks (omega arith) in
    let f = divide_numbers G ks cs (listed rule.items) [] [] 0 d (subst (Forest G [] []) (sym z) Forest.none) in (
      rule,
      n,
      subst (λ (xs : List Item). Forest G xs (preorders cs) ks) (append-nil (listed rule.items))
          (subst (λ (rs : List ℕ). Forest G (listed rule.items ++ []) rs ks) (append-nil (preorders cs)) f),
    )

pub all_trees : NumbersTree
all_trees G ks [] h = absurd h
all_trees G ks (r ∷ rs) (rule, n, f) =
    let q = numbers_divide G ks f 0 refl in
    (Tree.node r q.0, rule.left, (rule, n, refl, q.1), q.2, ap (λ (us : List ℕ). r ∷ us) q.3)

pub all-numbered : NumbersOne
all-numbered G ks t u A B c d e = (covers_one G ks t u A B 0 0 [] [] c d (ap (λ (rs : List ℕ). rs ++ []) e)).0
