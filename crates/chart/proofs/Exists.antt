-- Under a lawful grammar there is a first reading wherever there is a reading.
use Rattle.std.proofs.Common.{◌≡◌, ℕ, zero, suc, ◌+◌, ◌-◌, ◌<◌, ◌≤◌, List, [], ◌∷◌, length, Some, None, Option, refl, ap, ◌∙◌, subst, inl}
use Rattle.std.proofs.Common.{inr, ⊎_elim, arith}
use Rattle.std.specs.List.{slice_get, AllByRecursion}
use Rattle.std.proofs.lemmas.Bool.{cases_eq}
use Rattle.std.proofs.lemmas.Option.{slice_get_within}
use Rattle.grammar.specs.declared.rule.Symbol.TheVariants.{Nonterminal}
use Rattle.grammar.specs.declared.rule.Item.{Item}
use Rattle.grammar.specs.Model.{Items}
use Rattle.grammar.specs.declared.several.Several.TheVariants.{One, Two, Three}
use Rattle.grammar.specs.declared.rule.Rule.{Rule}
use Rattle.grammar.specs.Model.{Model}
use Rattle.grammar.specs.Several.{listed}
use Rattle.grammar.specs.Lawful.{Below, Higher, Ordered, Lawful}
use Rattle.text.specs.declared.token.Token.{Token}
use Rattle.chart.specs.Place.{nodes_of}
use Rattle.chart.specs.Trees.{Tree, Children, Covers}
use Rattle.chart.specs.Readings.{terminals, Derives, Part, Row, ByRule, Reading}
use Rattle.chart.specs.First.{First, Firsts, FirstReading, FirstExists}
use Rattle.chart.proofs.Rows.{same_some, not_both, derives_rule, rule_derives, part-grows}
use Rattle.chart.proofs.Rooms.{nodes-some, nodes_less, nodes_mono}
use Rattle.chart.proofs.Fronts.{reading_derives}
use Rattle.chart.proofs.Trying.{Decided, try_below, lowest_of, decided_as}
use Rattle.chart.proofs.Decides.{derives_column, decided_part, decided_row}
use Rattle.chart.proofs.Finds.{row_found}

-- an item of the grammar; of a lone one the nonterminal is higher
Fit : Model → ℕ → Item → Type 0
Fit G A x = Below G x.symbol × Higher A x.symbol

module _ (G : Model) (ts : List Token) (law : Lawful G) where
  -- what is known of all trees with at most f nodes below their top's rank
  module _ (f : ℕ)
      (decide : (A i j c : ℕ) → A < G.nonterminals → i < j → nodes_of G.nonterminals (j - i) - A ≤ f → Decided (Derives G ts A i j c))
      (find : (A i j c : ℕ) → A < G.nonterminals → i < j → nodes_of G.nonterminals (j - i) - A ≤ f → Derives G ts A i j c
      → (t : Tree) × First G ts t A i j c)
      (A i j : ℕ) (low : A < G.nonterminals) (some : i < j) (room : nodes_of G.nonterminals (j - i) - A ≤ suc f) where
    -- a nonterminal of a lone item, and one of an item that has others beside it
    alone : (b k m : ℕ) → A < b → b < G.nonterminals → k < m → (m - k) + 0 ≤ j - i → nodes_of G.nonterminals (m - k) - b ≤ f
    alone b k m h l z w = omega (arith, nodes_mono G.nonterminals (m - k) (j - i) (omega arith))

    beside : (b k m : ℕ) → k < m → (m - k) + 1 ≤ j - i → nodes_of G.nonterminals (m - k) - b ≤ f
    beside b k m z w = omega (arith, nodes_less G.nonterminals (m - k) (j - i) (omega arith) (omega arith))

    decide_alone : (x : Item) → Fit G A x → (k m d : ℕ) → k < m → m ≤ j → (m - k) + 0 ≤ j - i → Decided (Part G ts x.symbol k m d)
    unfolding Fit
    decide_alone x p k m d h l w =
        decided_part G ts x.symbol k m d
        (λ b e.
        let q : Fit G A record { symbol = Nonterminal b; relation = x.relation; mark = x.mark } =
        (subst (Below G) e p.0, subst (Higher A) e p.1) in
        decide b k m d q.0 h (alone b k m q.1 q.0 h w))

    decide_beside : (x : Item) → Below G x.symbol → (k m d : ℕ) → k < m → m ≤ j → (m - k) + 1 ≤ j - i → Decided (Part G ts x.symbol
        k m d)
    decide_beside x p k m d h l w =
        decided_part G ts x.symbol k m d (λ b e. decide b k m d (subst (Below G) e p) h (beside b k m h w))

    find_alone : (x : Item) → Fit G A x → (b k m d : ℕ) → x.symbol ≡ Nonterminal b → k < m → m ≤ j → (m - k) + 0 ≤ j - i → Derives G ts
        b k m d
        → (t : Tree) × First G ts t b k m d
    unfolding Fit
    find_alone x p b k m d e h l w o =
        let q : Below G (Nonterminal b) × Higher A (Nonterminal b) = (subst (Below G) e p.0, subst (Higher A) e p.1) in
        find b k m d q.0 h (alone b k m q.1 q.0 h w) o

    find_beside : (x : Item) → Below G x.symbol → (b k m d : ℕ) → x.symbol ≡ Nonterminal b → k < m → m ≤ j → (m - k) + 1 ≤ j - i →
        Derives G ts b k m d
        → (t : Tree) × First G ts t b k m d
    find_beside x p b k m d e h l w o = find b k m d (subst (Below G) e p) h (beside b k m h w) o

    decided_items : (items : Items) (c : ℕ) → AllByRecursion (λ x. Below G x.symbol) (listed items) → Ordered A items
        → Decided (Row G ts (listed
        items) i j c)
    unfolding Fit
    decided_items (One x) c b o = decided_row G ts j (j - i) 0 (Fit G A) decide_alone (x ∷ []) i c ((b.0, o), tt) (omega arith) (omega
        arith) (omega arith)
    decided_items (Two x y) c b o =
        decided_row G ts j (j - i) 1 (λ z. Below G z.symbol) decide_beside (x ∷ y ∷ []) i c b (omega arith) (omega arith) (omega arith)
    decided_items (Three x y z) c b o =
        decided_row G ts j (j - i) 1 (λ z. Below G z.symbol) decide_beside (x ∷ y ∷ z ∷ []) i c b (omega arith) (omega arith) (omega
        arith)

    found-items : (items : Items) (c : ℕ) → AllByRecursion (λ x. Below G x.symbol) (listed items) → Ordered A items
        → Row G ts (listed items) i j c
        → (cs : Children) × Firsts G ts cs (listed items) i j c
    unfolding Fit
    found-items (One x) c b o r =
        row_found G ts j (j - i) 0 (Fit G A) decide_alone find_alone (x ∷ []) i c ((b.0, o), tt) (omega arith) (omega arith) (omega
        arith) r
    found-items (Two x y) c b o r =
        row_found G ts j (j - i) 1 (λ z. Below G z.symbol) decide_beside find_beside (x ∷ y ∷ []) i c b (omega arith) (omega arith)
        (omega arith) r
    found-items (Three x y z) c b o r =
        row_found G ts j (j - i) 1 (λ z. Below G z.symbol) decide_beside find_beside (x ∷ y ∷ z ∷ []) i c b (omega arith) (omega
        arith) (omega arith) r

    decided_rule : (r c : ℕ) (o : Option Rule) → slice_get G.rules r ≡ o → Decided (ByRule G ts r A i j c)
    decided_rule r c None e = inr (λ h. not_both (slice_get G.rules r) h.0 h.1 e)
    decided_rule r c (Some rule) e =
        ⊎_elim
        (λ l. decided_as (λ x. (rule, e, l, x))
        (λ h. subst (λ (y : Rule). Row G ts (listed y.items) i j c) (same_some (slice_get G.rules r) h.0 rule h.1 e) h.3)
        (decided_items rule.items c (law.proper r rule e).below (subst (λ (a : ℕ). Ordered a rule.items) l (law.proper r rule
        e).ordered)))
        (λ n. inr (λ h. n (ap (λ (y : Rule). y.left) (same_some (slice_get G.rules r) rule h.0 e h.1) ∙ h.2))) (cases_eq rule.left A)

    pub decided_tree : (c : ℕ) → Decided (Derives G ts A i j c)
    decided_tree c =
        ⊎_elim (λ h. inl (rule_derives G ts A i j c h.0 h.2.0))
        (λ g. inr (λ d.
        let q = derives_rule G ts A i j c d in
        g q.0 (slice_get_within G.rules q.0 q.1.0 q.1.1) q.1))
        (try_below (λ r. ByRule G ts r A i j c) (length G.rules) (λ r l. decided_rule r c (slice_get G.rules r) refl))

    pub found-tree : (c : ℕ) → Derives G ts A i j c → (t : Tree) × First G ts t A i j c
    found-tree c d =
        let q = derives_rule G ts A i j c d in
        let o = lowest_of (λ r. ByRule G ts r A i j c) (length G.rules) (λ r l. decided_rule r c (slice_get G.rules r) refl) q.0
        (slice_get_within G.rules q.0 q.1.0 q.1.1) q.1 in
        let r = o.0 in
        let h = o.2.0 in
        let rule = h.0 in
        let p = law.proper r rule h.1 in
        let u = found-items rule.items c p.below (subst (λ (a : ℕ). Ordered a rule.items) h.2 p.ordered) h.3 in
        (Tree.node r u.0, (record { fits = h; least = o.2.1 }, (rule, h.1, u.1)))

  mutual
    pub decided_derives : (f A i j c : ℕ) → A < G.nonterminals → i < j → nodes_of G.nonterminals (j - i) - A ≤ f → Decided (Derives G ts
        A i j c)
    decided_derives zero A i j c l s r = absurd (omega (arith, nodes-some G.nonterminals (j - i) (omega arith)))
    decided_derives (suc f) A i j c l s r = decided_tree f (decided_derives f) (found_first f) A i j l s r c

    found_first : (f A i j c : ℕ) → A < G.nonterminals → i < j → nodes_of G.nonterminals (j - i) - A ≤ f → Derives G ts A i j c
        → (t : Tree) × First G ts t A i j c
    found_first zero A i j c l s r d = absurd (omega (arith, nodes-some G.nonterminals (j - i) (omega arith)))
    found_first (suc f) A i j c l s r d = found-tree f (decided_derives f) (found_first f) A i j l s r c d

  low-top : (A : ℕ) (t : Tree) → Covers G (terminals ts) t A 0 → A < G.nonterminals
  low-top A (Tree.node r cs) h = omega (arith, (law.proper r h.0 h.1).left, h.2)

  pub reading_first : (A : ℕ) (t : Tree) → Reading G ts A t → (u : Tree) × FirstReading G ts A u
  reading_first A t h =
      let l = low-top A t h.covers in
      let d = reading_derives G ts A t h in
      let s = part-grows G ts (Nonterminal A) 0 (length ts) d.0 d.1 in
      let n = nodes_of G.nonterminals (length ts - 0) - A in
      let o = lowest_of (λ c. Derives G ts A 0 (length ts) c) 64 (λ c z. decided_derives n A 0 (length ts) c l s (omega arith)) d.0
      (derives_column G ts A 0 (length ts) d.0 d.1) d.1 in
      let u = found_first n A 0 (length ts) o.0 l s (omega arith) o.2.0 in
      (u.0, (o.0, u.1, o.2.1))

pub all_exist : FirstExists
all_exist G ts A t law h = reading_first G ts law A t h
