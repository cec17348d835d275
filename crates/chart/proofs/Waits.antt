-- What waits for the items of a node: within its tokens, with fewer nodes, and with its trees below it.
use Rattle.std.proofs.Common.{◌≡◌, ℕ, suc, ◌+◌, ◌-◌, ◌<◌, ◌≤◌, List, [], ◌∷◌, ◌++◌, map, length, sym, refl, ap, ◌∙◌, subst, append_assoc}
use Rattle.std.proofs.Common.{arith}
use Rattle.std.specs.List.{AllByRecursion}
use Rattle.std.proofs.ByRecursion.{All-append}
use Rattle.std.proofs.lemmas.List.{append-nil, map-append}
use Rattle.columns.specs.Mask.{Near}
use Rattle.grammar.specs.declared.rule.Symbol.{Symbol}
use Rattle.grammar.specs.declared.rule.Symbol.TheVariants.{Terminal, Nonterminal}
use Rattle.grammar.specs.declared.rule.Item.{Item}
use Rattle.grammar.specs.Model.{Model}
use Rattle.grammar.specs.Lawful.{Below}
use Rattle.text.specs.declared.token.Token.{Token}
use Rattle.tree.specs.declared.node.Node.{Node}
use Rattle.chart.specs.declared.waiting.Waiting.{Waiting}
use Rattle.chart.specs.Place.{nodes_of}
use Rattle.chart.specs.Trees.{Children, preorder, preorders}
use Rattle.chart.specs.Readings.{Part}
use Rattle.chart.specs.First.{First, Firsts, Shortest}
use Rattle.chart.specs.Nodes.{Tells}
use Rattle.chart.specs.Waits.{Due, covered, rooms, Rest, Awaits, Divided}
use Rattle.chart.proofs.Rows.{near_grows, row_grows}
use Rattle.chart.proofs.Rooms.{nodes-cut}

pub covered-append : (us vs : List Waiting) → covered (us ++ vs) ≡ covered us + covered vs
covered-append [] vs = omega arith
covered-append (w ∷ us) vs = omega (arith, covered-append us vs)

pub rooms-append : (n : ℕ) (us vs : List Waiting) → rooms n (us ++ vs) ≡ rooms n us + rooms n vs
rooms-append n [] vs = omega arith
rooms-append n (w ∷ us) vs = omega (arith, rooms-append n us vs)

module _ (G : Model) (ts : List Token) where
  pub rest-append : (us vs : List Waiting) (ns : List Node) → Rest G ts (us ++ vs) ns
      → (ps : List Node) × (qs : List Node) × (ns ≡ ps ++ qs) × Rest G ts us ps × Rest G ts vs qs
  rest-append [] vs ns h = ([], ns, refl, refl, h)
  rest-append (w ∷ us) vs ns (ms, ls, e, x, h) =
      let r = rest-append us vs ls h in
      (ms ++ r.0, r.1, e ∙ ap (λ (y : List Node). ms ++ y) r.2 ∙ sym (append_assoc ms r.0 r.1), (ms, r.0, refl, x, r.3), r.4)

  -- ---- one item

  await_covered : (x : Item) (s : Symbol) (c i k : ℕ) (ws : List Waiting) → Awaits G ts x s c i k ws → covered ws ≤ k - i
  await_covered x (Terminal a) c i k ws h = omega (arith, ap covered h)
  await_covered x (Nonterminal b) c i k ws (w, e, s, f, t, l) = omega (arith, ap covered e)

  pub await_rooms : (n : ℕ) (x : Item) (s : Symbol) (c i k : ℕ) (ws : List Waiting) → Awaits G ts x s c i k ws
      → rooms n ws ≤ nodes_of n (k - i)
  await_rooms n x (Terminal a) c i k ws h = omega (arith, ap (rooms n) h)
  await_rooms n x (Nonterminal b) c i k ws (w, e, s, f, t, l) =
      let p : nodes_of n (w.stretch.to - w.stretch.from) ≡ nodes_of n (k - i) = rw (f, t) refl in
      omega (arith, ap (rooms n) e)

  await_due : (x : Item) (s : Symbol) (c i k : ℕ) (ws : List Waiting) → x.symbol ≡ s → Below G s → k ≤ length ts
      → Awaits G ts x s c i k ws → AllByRecursion (Due G ts) ws
  await_due x (Terminal a) c i k ws e l n h = subst (AllByRecursion (Due G ts)) (sym h) tt
  await_due x (Nonterminal b) c i k ws e l n (w, h, s, f, t, m) =
      let p : Part G ts (Nonterminal b) i k w.column = subst (λ (y : Symbol). Part G ts y i k w.column) e m.part in
      subst (AllByRecursion (Due G ts)) (sym h) (
        record {
          low = rw s l;
          within = rw t n;
          some = rw (s, f, t) p;
        },
        tt,
      )

  -- ---- a row of items

  short-first : (x : Item) (xs : List Item) (i j c k : ℕ) → Shortest G ts x xs i j c k → (i < k) × (k + length xs ≤ j)
  short-first x xs i j c k s = (near_grows G ts x i k c s.front, row_grows G ts xs k j c s.back)

  pub divided_covered : (xs : List Item) (c i j : ℕ) (ws : List Waiting) → Divided G ts xs c i j ws → covered ws ≤ j - i
  divided_covered [] c i j ws h = omega (arith, ap covered h.1)
  divided_covered (x ∷ xs) c i j ws (k, us, vs, e, s, a, h) =
      let l = short-first x xs i j c k s in
      let p = await_covered x x.symbol c i k us a in
      let q = divided_covered xs c k j vs h in
      omega (arith, ap covered e, covered-append us vs)

  pub divided_due : (xs : List Item) (c i j : ℕ) (ws : List Waiting) → AllByRecursion (λ x. Below G x.symbol) xs → j ≤ length ts
      → Divided G ts xs c i j ws
      → AllByRecursion (Due G ts) ws
  divided_due [] c i j ws b n h = subst (AllByRecursion (Due G ts)) (sym h.1) tt
  divided_due (x ∷ xs) c i j ws b n (k, us, vs, e, s, a, h) =
      let l = short-first x xs i j c k s in
      subst (AllByRecursion (Due G ts)) (sym e)
      (All-append (Due G ts) us vs (await_due x x.symbol c i k us refl b.0 (omega arith) a)
      (divided_due xs c k j vs b.1 n h))

  pub divided_rooms : (n : ℕ) (x : Item) (xs : List Item) (c i j : ℕ) (ws : List Waiting) → Divided G ts (x ∷ xs) c i j ws
      → rooms n ws ≤ nodes_of n (j - i)
  divided_rooms n x [] c i j ws (k, us, vs, e, s, a, h) =
      let p = await_rooms n x x.symbol c i k us a in
      omega (arith, ap (rooms n) e, rooms-append n us vs, ap (rooms n) h.1, ap (λ (m : ℕ). nodes_of n (m - i)) h.0)
  divided_rooms n x (y ∷ xs) c i j ws (k, us, vs, e, s, a, h) =
      let l = short-first x (y ∷ xs) i j c k s in
      let p = await_rooms n x x.symbol c i k us a in
      let q = divided_rooms n y xs c k j vs h in
      omega (arith, ap (rooms n) e, rooms-append n us vs, nodes-cut n i k j l.0 (omega arith))

  pub divided_fewer : (n : ℕ) (x y : Item) (xs : List Item) (c i j : ℕ) (ws : List Waiting) → Divided G ts (x ∷ y ∷ xs) c i j ws
      → rooms n ws + n ≤ nodes_of n (j - i)
  divided_fewer n x y xs c i j ws (k, us, vs, e, s, a, h) =
      let l = short-first x (y ∷ xs) i j c k s in
      let p = await_rooms n x x.symbol c i k us a in
      let q = divided_rooms n y xs c k j vs h in
      omega (arith, ap (rooms n) e, rooms-append n us vs, nodes-cut n i k j l.0 (omega arith))

  -- ---- the trees below a node

  -- the nodes are those of the children
  Under : List Node → Children → Type 0
  Under ns cs = (map (λ n. n.rule) ns ≡ preorders cs) × AllByRecursion (Tells G) ns

  item-written : (x : Item) (xs : List Item) (s : Symbol) (c i k j : ℕ) (us : List Waiting) (ps qs : List Node) (cs : Children)
      → x.symbol ≡ s
      → Shortest G ts x xs i j c k → Awaits G ts x s c i k us → Rest G ts us ps → Firsts G ts cs xs k j c → Under qs cs
      → (ds : Children) × Firsts G ts ds (x ∷ xs) i j c × Under (ps ++ qs) ds
  unfolding Near Under
  item-written x xs (Terminal a) c i k j us ps qs cs e s w r f u =
      let n = s.front.1 in
      let o : k ≡ suc i = (subst (λ (y : Symbol). Part G ts y i k n.0) e n.1).0 in
      let z : ps ≡ [] = subst (λ (y : List Waiting). Rest G ts y ps) w r in (
        Children.piece cs,
        (a, e, subst (λ (m : ℕ). Shortest G ts x xs i j c m) o s, subst (λ (m : ℕ). Firsts G ts cs xs m j c) o f),
        subst (λ (y : List Node). (map (λ n. n.rule) (y ++ qs) ≡ preorders cs) × AllByRecursion (Tells G) (y ++ qs)) (sym z) u,
      )
  item-written x xs (Nonterminal b) c i k j us ps qs cs e s (w, h, g, o, v, l) r f u =
      let q = subst (λ (y : List Waiting). Rest G ts y ps) h r in
      let z : ps ≡ q.0 = q.2 ∙ ap (λ (y : List Node). q.0 ++ y) q.4 ∙ append-nil q.0 in
      let t = q.3 in
      let first : First G ts t.0 b i k w.column =
      subst (λ (y : ℕ). First G ts t.0 b i y w.column) v
      (subst (λ (y : ℕ). First G ts t.0 b y w.stretch.to w.column) o
      (subst (λ (y : ℕ). First G ts t.0 y w.stretch.from w.stretch.to w.column) g t.1)) in (
        Children.tree t.0 cs,
        (b, k, w.column, e, s, l, first, f),
        subst (λ (y : List Node). (map (λ n. n.rule) (y ++ qs) ≡ preorder t.0 ++ preorders cs) × AllByRecursion (Tells G) (y ++ qs))
            (sym z) (
              map-append (λ (n : Node). n.rule) q.0 qs ∙ ap (λ (y : List ℕ). y ++ map (λ (n : Node). n.rule) qs) t.2.numbers
                  ∙ ap (λ (y : List ℕ). preorder t.0 ++ y) u.0,
              All-append (Tells G) q.0 qs t.2.told u.1,
            ),
      )

  pub divided_written : (xs : List Item) (c i j : ℕ) (ws : List Waiting) (ns : List Node) → Divided G ts xs c i j ws → Rest G ts ws ns
      → (cs : Children) × Firsts G ts cs xs i j c × (map (λ n. n.rule) ns ≡ preorders cs) × AllByRecursion (Tells G) ns
  unfolding Under
  divided_written [] c i j ws ns h r =
      let z : ns ≡ [] = subst (λ (y : List Waiting). Rest G ts y ns) h.1 r in
      (Children.none, h.0, ap (map (λ (n : Node). n.rule)) z, subst (AllByRecursion (Tells G)) (sym z) tt)
  divided_written (x ∷ xs) c i j ws ns (k, us, vs, e, s, a, h) r =
      let q = rest-append us vs ns (subst (λ (y : List Waiting). Rest G ts y ns) e r) in
      let u = divided_written xs c k j vs q.1 h q.4 in
      let o = item-written x xs x.symbol c i k j us q.0 q.1 u.0 refl s a q.3 u.1 (u.2, u.3) in (
        o.0,
        o.1,
        subst (λ (y : List Node). map (λ (n : Node). n.rule) y ≡ preorders o.0) (sym q.2) o.2.0,
        subst (AllByRecursion (Tells G)) (sym q.2) o.2.1,
      )
