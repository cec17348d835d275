-- Columns that meet the relations of the items to come, one after another, and columns that fit a tree, are the same.
use Rattle.std.proofs.Common.{◌≡◌, ℕ, suc, ◌+◌, ◌<◌, List, [], ◌∷◌, ◌++◌, Some, sym, ap, ◌∙◌, subst, append_assoc, arith}
use Rattle.std.specs.List.{slice_get}
use Rattle.columns.specs.Relation.{Meets}
use Rattle.grammar.specs.declared.rule.Symbol.TheVariants.{Terminal, Nonterminal}
use Rattle.grammar.specs.declared.rule.Item.{Item}
use Rattle.grammar.specs.declared.rule.Rule.{Rule}
use Rattle.grammar.specs.Model.{Model}
use Rattle.grammar.specs.Several.{listed}
use Rattle.tree.specs.Slots.{Slot, slots}
use Rattle.chart.specs.Trees.{Tree, Children, width, widths, preorder, preorders, Covers, Divide}
use Rattle.chart.specs.Fits.{Fits, Under}
use Rattle.chart.proofs.Rows.{same_some}
use Rattle.chart.proofs.Once.{not_both_kinds}

-- the pieces from i on and the nodes of these rule numbers can stand below these items; the columns of the pieces are given
pub data Met (G : Model) (ds : List ℕ) : List Slot → List ℕ → ℕ → Type 0 where
  end : {i : ℕ} → Met G ds [] [] i
  piece : {s : Slot} {ss : List Slot} {rs : List ℕ} {i d a : ℕ}
      → s.item.symbol ≡ Terminal a
      → slice_get ds i ≡ Some d
      → d < 64
      → Meets s.item.relation s.column d
      → Met G ds ss rs (suc i)
      → Met G ds (s ∷ ss) rs i
  node : {s : Slot} {ss : List Slot} {rs : List ℕ} {i d r : ℕ} {rule : Rule}
      → s.item.symbol ≡ Nonterminal rule.left
      → slice_get G.rules r ≡ Some rule
      → d < 64
      → Meets s.item.relation s.column d
      → Met G ds (slots r d 0 (listed rule.items) ++ ss) rs i
      → Met G ds (s ∷ ss) (r ∷ rs) i

module _ (G : Model) (ts ds : List ℕ) where
  mutual
    fits_met : (t : Tree) (b i d : ℕ) (s : Slot) (ss : List Slot) (rs : List ℕ) → s.item.symbol ≡ Nonterminal b → Covers G ts t b i
        → Fits G ds t i d → Meets s.item.relation s.column d → Met G ds ss rs (i + width t)
        → Met G ds (s ∷ ss) (preorder t ++ rs) i
    fits_met (Tree.node r cs) b i d s ss rs e (rule, n, l, c) (low, (other, m, u)) meets rest =
        let same = same_some (slice_get G.rules r) other rule m n in
        let v = subst (λ (y : Rule). Under G ds cs (listed y.items) i d) same u in
        Met.node (e ∙ ap Nonterminal (sym l)) n low meets (under_met cs (listed rule.items) r d 0 ss rs i c v rest)

    pub under_met : (cs : Children) (ys : List Item) (r c k : ℕ) (ss : List Slot) (rs : List ℕ) (i : ℕ) → Divide G ts cs ys i
        → Under G ds cs ys i c → Met G ds ss rs (i + widths cs) → Met G ds (slots r c k ys ++ ss) (preorders cs ++ rs) i
    under_met Children.none [] r c k ss rs i d u rest = let o : i + 0 ≡ i = omega arith in subst (Met G ds ss rs) o rest
    under_met Children.none (y ∷ ys) r c k ss rs i d u rest = absurd d
    under_met (Children.piece cs) [] r c k ss rs i d u rest = absurd d
    under_met (Children.piece cs) (y ∷ ys) r c k ss rs i (a, e, n, d) (q, at, low, meets, u) rest =
        let o : i + suc (widths cs) ≡ suc i + widths cs = omega arith in
        Met.piece e at low meets (under_met cs ys r c (k + 1) ss rs (suc i) d u (subst (Met G ds ss rs) o rest))
    under_met (Children.tree t cs) [] r c k ss rs i d u rest = absurd d
    under_met (Children.tree t cs) (y ∷ ys) r c k ss rs i (b, e, h, d) (q, f, meets, u) rest =
        let o : i + (width t + widths cs) ≡ (i + width t) + widths cs = omega arith in
        let g = under_met cs ys r c (k + 1) ss rs (i + width t) d u (subst (Met G ds ss rs) o rest) in
        let s : Slot = record { rule = r; column = c; index = k; item = y } in
        subst (λ (us : List ℕ). Met G ds (s ∷ (slots r c (k + 1) ys ++ ss)) us i) (sym (append_assoc (preorder t) (preorders cs) rs))
        (fits_met t b i q s (slots r c (k + 1) ys ++ ss) (preorders cs ++ rs) e h f meets g)

  met_piece : {s : Slot} {ss : List Slot} {rs : List ℕ} {i a : ℕ} → s.item.symbol ≡ Terminal a → Met G ds (s ∷ ss) rs i
      → (d : ℕ) × (slice_get ds i ≡ Some d) × (d < 64) × Meets s.item.relation s.column d × Met G ds ss rs (suc i)
  met_piece e (Met.piece {d = d} f at low meets rest) = (d, at, low, meets, rest)
  met_piece {s = s} {a = a} e (Met.node {rule = rule} f n low meets rest) = absurd (not_both_kinds s.item.symbol a rule.left e f)

  met_node : {s : Slot} {ss : List Slot} {rs : List ℕ} {i b r : ℕ} → s.item.symbol ≡ Nonterminal b → Met G ds (s ∷ ss) (r ∷ rs) i
      → (d : ℕ) × (rule : Rule) × (slice_get G.rules r ≡ Some rule) × (d < 64) × Meets s.item.relation s.column d
      × Met G ds (slots r d 0 (listed rule.items) ++ ss) rs i
  met_node {s = s} {b = b} e (Met.piece {a = a} f at low meets rest) = absurd (not_both_kinds s.item.symbol a b f e)
  met_node e (Met.node {d = d} {rule = rule} f n low meets rest) = (d, rule, n, low, meets, rest)

  mutual
    met_fits : (t : Tree) (b i : ℕ) (s : Slot) (ss : List Slot) (rs : List ℕ) → s.item.symbol ≡ Nonterminal b → Covers G ts t b i
        → Met G ds (s ∷ ss) (preorder t ++ rs) i
        → (d : ℕ) × Fits G ds t i d × Meets s.item.relation s.column d × Met G ds ss rs (i + width t)
    met_fits (Tree.node r cs) b i s ss rs e (rule, n, l, c) met =
        let q = met_node e met in
        let same = same_some (slice_get G.rules r) q.1 rule q.2 n in
        let rest = subst (λ (y : Rule). Met G ds (slots r q.0 0 (listed y.items) ++ ss) (preorders cs ++ rs) i) same q.5 in
        let v = met_under cs (listed rule.items) r q.0 0 ss rs i c rest in
        (q.0, (q.3, (rule, n, v.0)), q.4, v.1)

    pub met_under : (cs : Children) (ys : List Item) (r c k : ℕ) (ss : List Slot) (rs : List ℕ) (i : ℕ) → Divide G ts cs ys i
        → Met G ds (slots r c k ys ++ ss) (preorders cs ++ rs) i → Under G ds cs ys i c × Met G ds ss rs (i + widths cs)
    met_under Children.none [] r c k ss rs i d met = let o : i ≡ i + 0 = omega arith in (tt, subst (Met G ds ss rs) o met)
    met_under Children.none (y ∷ ys) r c k ss rs i d met = absurd d
    met_under (Children.piece cs) [] r c k ss rs i d met = absurd d
    met_under (Children.piece cs) (y ∷ ys) r c k ss rs i (a, e, n, d) met =
        let o : suc i + widths cs ≡ i + suc (widths cs) = omega arith in
        let q = met_piece e met in
        let v = met_under cs ys r c (k + 1) ss rs (suc i) d q.4 in
        ((q.0, q.1, q.2, q.3, v.0), subst (Met G ds ss rs) o v.1)
    met_under (Children.tree t cs) [] r c k ss rs i d met = absurd d
    met_under (Children.tree t cs) (y ∷ ys) r c k ss rs i (b, e, h, d) met =
        let o : (i + width t) + widths cs ≡ i + (width t + widths cs) = omega arith in
        let s : Slot = record { rule = r; column = c; index = k; item = y } in
        let m = subst (λ (us : List ℕ). Met G ds (s ∷ (slots r c (k + 1) ys ++ ss)) us i) (append_assoc (preorder t) (preorders cs) rs)
        met in
        let q = met_fits t b i s (slots r c (k + 1) ys ++ ss) (preorders cs ++ rs) e h m in
        let v = met_under cs ys r c (k + 1) ss rs (i + width t) d q.3 in
        ((q.0, q.1, q.2, v.0), subst (Met G ds ss rs) o v.1)
