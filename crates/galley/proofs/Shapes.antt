-- Node records that a grammar tells of a tree have the shapes of that tree.
use Rattle.std.proofs.Common.{◌≡◌, ℕ, suc, ◌+◌, true, false, List, [], ◌∷◌, ◌++◌, map, length, Some, Option, sym, refl, ap, ◌∙◌, subst}
use Rattle.std.proofs.Common.{arith}
use Rattle.std.specs.List.{slice_get, AllByRecursion}
use Rattle.std.proofs.lemmas.List.{append-nil, length-map, map-append}
use Rattle.grammar.specs.declared.rule.Child.{Child}
use Rattle.grammar.specs.declared.rule.Child.TheVariants.{Piece, Node as Below}
use Rattle.grammar.specs.declared.rule.Symbol.TheVariants.{Nonterminal}
use Rattle.grammar.specs.declared.rule.Item.{Item}
use Rattle.grammar.specs.Model.{Items}
use Rattle.grammar.specs.declared.several.Several.TheVariants.{One, Two, Three}
use Rattle.grammar.specs.declared.rule.Rule.{Rule}
use Rattle.grammar.specs.Model.{Model, child_of}
use Rattle.grammar.specs.Several.{listed}
use Rattle.text.specs.declared.token.Token.{Token}
use Rattle.tree.specs.declared.node.Node.{Node}
use Rattle.tree.specs.Forest.{Forest}
use Rattle.tree.specs.Forest as numbers
use Rattle.columns.specs.declared.relation.Relation.TheVariants.{Any}
use Rattle.chart.specs.Trees.{width, preorder}
use Rattle.chart.specs.Readings.{terminals}
use Rattle.grammar.specs.Model.{shape_of}
use Rattle.chart.specs.Nodes.{Tells}
use Rattle.chart.proofs.Numbers.{all-numbers}
use Rattle.chart.proofs.Once.{all_read}
use Rattle.shape.specs.Children.{children, kids, under, pieces_in, closes, one_tree}
use Rattle.shape.specs.Shaped.{Shaped, tree}
use Rattle.shape.proofs.Trees.{shaped_closes}
use Rattle.galley.specs.Reads.{FirstHeld}

-- what items cover
abbrev pub covered : List Item → List Child
covered xs = map (λ (x : Item). child_of x.symbol) xs

covered-shape : (items : Items) → children (shape_of items) ≡ covered (listed items)
covered-shape (One x) = refl
covered-shape (Two x y) = refl
covered-shape (Three x y z) = refl

same-rule : (o : Option Rule) (a b : Rule) → o ≡ Some a → o ≡ Some b → a ≡ b
same-rule o a b p q = cc

module _ (G : Model) where
  pub forest_shaped : {xs : List Item} {rs ts : List ℕ} → Forest G xs rs ts → (ns : List Node) → map (λ (n : Node). n.rule) ns ≡ rs
      → AllByRecursion (Tells G) ns → Shaped (covered xs) ns (length ts)
  forest_shaped Forest.none [] e told = Shaped.none
  forest_shaped Forest.none (n ∷ ns) e told = absurd (cc)
  forest_shaped (Forest.piece {x = x} {xs = xs} {ts = ts} s f) ns e told =
      let c : Piece ≡ child_of x.symbol = sym (ap child_of s) in
      subst (λ (k : Child). Shaped (k ∷ covered xs) ns (suc (length ts))) c (Shaped.piece (forest_shaped f ns e told))
  forest_shaped (Forest.node known s f) [] e told = absurd (cc)
  forest_shaped (Forest.node {x = x} {xs = xs} {ts = ts} {r = r} {rule = rule} known s f) (n ∷ ns) e (t, told) =
      let number : n.rule ≡ r = cc in
      let rest : map (λ (m : Node). m.rule) ns ≡ _ = cc in
      let same : t.rule ≡ rule = same-rule (slice_get G.rules r) t.rule rule (ap (slice_get G.rules) (sym number) ∙ t.is) known in
      let shape : under n ≡ covered (listed rule.items)
      = ap children t.shape ∙ covered-shape t.rule.items ∙ ap (λ (q : Rule). covered (listed q.items)) same in
      let h = forest_shaped f ns rest told in
      let m : covered (listed rule.items ++ xs) ≡ under n ++ covered xs
      = map-append (λ (y : Item). child_of y.symbol) (listed rule.items) xs ∙ ap (λ (cs : List Child). cs ++ covered xs) (sym shape) in
      let c : Below ≡ child_of x.symbol = sym (ap child_of s) in
      subst (λ (k : Child). Shaped (k ∷ covered xs) (n ∷ ns) (length ts)) c
      (Shaped.node (subst (λ (cs : List Child). Shaped cs ns (length ts)) m h))

-- one tree over so many pieces, as galleys keep it
pub one_tree_of : (ns : List Node) (p : ℕ) → Shaped tree ns p → (one_tree ns ≡ true) × (pieces_in ns ≡ p)
one_tree_of [] p s = elim s [ ]
one_tree_of (n ∷ ns) p s =
    let h = shaped_closes s in
    let e : kids (under n) + 0 ≡ kids (under n) = omega arith in
    (subst (λ (m : ℕ). closes m ns ≡ true) e h.0, omega (arith, h.1))

-- an item that stands for a whole tree
abbrev top_item : ℕ → Item
top_item a = record { symbol = Nonterminal a; relation = Any; mark = false }

pub tree_shaped : (G : Model) (rs ts : List ℕ) (ns : List Node) → numbers.Tree G rs ts → map (λ (n : Node). n.rule) ns ≡ rs
    → AllByRecursion (Tells G) ns → Shaped tree ns (length ts)
tree_shaped G [] ts ns t e told = absurd t
tree_shaped G (r ∷ rs) ts ns (rule, known, f) e told =
    let g = subst (λ (xs : List Item). Forest G xs rs ts) (sym (append-nil (listed rule.items))) f in
    forest_shaped G (Forest.node {x = top_item rule.left} {xs = []} known refl g) ns e told

-- the nodes of the first reading are one tree over its tokens
pub first_shaped : (G : Model) (A : ℕ) (ts : List Token) (ns : List Node) → FirstHeld G A ts ns
    → (one_tree ns ≡ true) × (pieces_in ns ≡ length ts)
first_shaped G A ts ns (t, first, holds) =
    let reading = all_read G ts A t first in
    let l = length-map ts (λ (k : Token). k.terminal) in
    let w : width t ≡ length (terminals ts) = reading.all ∙ sym l in
    let s = tree_shaped G (preorder t) (terminals ts) ns (all-numbers G (terminals ts) t A reading.covers w) holds.numbers
    holds.told in
    let o = one_tree_of ns (length (terminals ts)) s in
    (o.0, o.1 ∙ l)
