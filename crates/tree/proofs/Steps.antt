-- One step of a walk neither makes nor breaks a tree, and brings the end nearer.
use Rattle.std.proofs.Common.{◌≡◌, ℕ, ◌+◌, ◌<◌, List, [], ◌∷◌, ◌++◌, length, Some, None, Ok, Option, sym, refl, ap, ◌∙◌, subst, arith}
use Rattle.std.proofs.lemmas.List.{map-append, append-nil}
use Rattle.grammar.specs.declared.rule.Symbol.{Symbol}
use Rattle.grammar.specs.declared.rule.Symbol.TheVariants.{Terminal, Nonterminal}
use Rattle.grammar.specs.declared.rule.Item.{Item}
use Rattle.grammar.specs.declared.rule.Rule.{Rule}
use Rattle.grammar.specs.Model.{Model}
use Rattle.grammar.specs.Several.{listed}
use Rattle.grammar.specs.declared.rule.Expansion.{Expansion}
use Rattle.tree.specs.declared.walk.Walk.{Walk}
use Rattle.tree.specs.declared.walk.Step.{Step}
use Rattle.tree.specs.Forest.{Forest, Tree}
use Rattle.tree.specs.Forest.Forest.{none, piece, node}
use Rattle.tree.specs.Slots.{Slot, slots, entered_slots}
use Rattle.tree.specs.Walks.{Ahead, Begun, Came, Ended, Nexts, Takes, items_of, pending, rules_left, terminals_left, waiting_slots}
use Rattle.tree.proofs.Forests.{less_piece, less_node}

-- the items of a node, at whatever column
pub items_back : (rule column index : ℕ) (xs : List Item) → items_of (slots rule column index xs) ≡ xs
items_back rule column index [] = refl
items_back rule column index (x ∷ xs) = ap (λ (ys : List Item). x ∷ ys) (items_back rule column (index + 1) xs)

module _ {X : Type 0} (G : Model) where
  -- the items to come where the walk has come to a node, and where it has not
  pub entered-items : (v : Walk X) (e : Expansion) (d : ℕ) → v.entered ≡ Some e
      → items_of (pending v d) ≡ listed e.items ++ items_of (waiting_slots v)
  entered-items v e d is =
      ap (λ (o : Option Expansion). items_of (entered_slots o d ++ waiting_slots v)) is
      ∙ map-append (λ (s : Slot). s.item) (slots e.rule d 0 (listed e.items)) (waiting_slots v)
      ∙ ap (λ (xs : List Item). xs ++ items_of (waiting_slots v)) (items_back e.rule d 0 (listed e.items))

  pub other_items : (v : Walk X) (d : ℕ) → v.entered ≡ None → items_of (pending v d) ≡ items_of (waiting_slots v)
  other_items v d is = ap (λ (o : Option Expansion). items_of (entered_slots o d ++ waiting_slots v)) is

  module _ (w v : Walk X) (x : Item) (d : ℕ) where
    on : (s : Symbol) → x.symbol ≡ s → Takes G s w v → Forest G (x ∷ items_of (waiting_slots v)) (rules_left w) (terminals_left w)
        → Ahead G v d
    on (Terminal t) is (terminals, rules, entered, number) f =
        let a = subst (λ (ts : List ℕ). Forest G (x ∷ items_of (waiting_slots v)) (rules_left w) ts) terminals f in
        let b = less_piece is a in
        let r = subst (λ (rs : List ℕ). Forest G (items_of (waiting_slots v)) rs (terminals_left v)) (sym rules) b in
        subst (λ (xs : List Item). Forest G xs (rules_left v) (terminals_left v)) (sym (other_items v d entered)) r
    on (Nonterminal a) is (e, entered, known, rules, terminals, number) f =
        let b = subst (λ (rs : List ℕ). Forest G (x ∷ items_of (waiting_slots v)) rs (terminals_left w)) rules f in
        let h = less_node record { left = a; items = e.items } is known b in
        let t = subst (λ (ts : List ℕ). Forest G (listed e.items ++ items_of (waiting_slots v)) (rules_left v) ts) (sym terminals) h in
        subst (λ (xs : List Item). Forest G xs (rules_left v) (terminals_left v)) (sym (entered-items v e d entered)) t

    back : (s : Symbol) → x.symbol ≡ s → Takes G s w v → Ahead G v d
        → Forest G (x ∷ items_of (waiting_slots v)) (rules_left w) (terminals_left w)
    back (Terminal t) is (terminals, rules, entered, number) f =
        let a = subst (λ (xs : List Item). Forest G xs (rules_left v) (terminals_left v)) (other_items v d entered) f in
        let b = subst (λ (rs : List ℕ). Forest G (items_of (waiting_slots v)) rs (terminals_left v)) rules a in
        subst (λ (ts : List ℕ). Forest G (x ∷ items_of (waiting_slots v)) (rules_left w) ts) (sym terminals) (piece is b)
    back (Nonterminal a) is (e, entered, known, rules, terminals, number) f =
        let h = subst (λ (xs : List Item). Forest G xs (rules_left v) (terminals_left v)) (entered-items v e d entered) f in
        let b = subst (λ (ts : List ℕ). Forest G (listed e.items ++ items_of (waiting_slots v)) (rules_left v) ts) terminals h in
        subst (λ (rs : List ℕ). Forest G (x ∷ items_of (waiting_slots v)) rs (terminals_left w)) (sym rules) (node known is b)

    nearer : (s : Symbol) → Takes G s w v
        → length (rules_left v) + length (terminals_left v) < length (rules_left w) + length (terminals_left w)
    nearer (Terminal t) (terminals, rules, entered, number) = let a = ap length terminals in let b = ap length rules in omega arith
    nearer (Nonterminal a) (e, entered, known, rules, terminals, number) = let b = ap length rules in let c
        = ap length terminals in omega arith

  module _ (column d : ℕ) (w v : Walk X) (s : Step) (came : Came G column w v s) where
    pub came_on : Ahead G w column → Ahead G v d
    came_on f = on w v s.item d s.item.symbol refl came.takes
        (subst (λ (ss : List Slot). Forest G (items_of ss) (rules_left w) (terminals_left w)) came.slot f)

    pub came_back : Ahead G v d → Ahead G w column
    came_back f = subst (λ (ss : List Slot). Forest G (items_of ss) (rules_left w) (terminals_left w)) (sym came.slot)
        (back w v s.item d s.item.symbol refl came.takes f)

    pub came_nearer : length (rules_left v) + length (terminals_left v) < length (rules_left w) + length (terminals_left w)
    came_nearer = nearer w v s.item d s.item.symbol came.takes

  module _ (rules terminals : List ℕ) (w : Walk X) (begun : Begun G rules terminals w) (c : ℕ) where
    whole : items_of (pending w c) ≡ listed begun.top.items
    whole = entered-items w begun.top c begun.entered
        ∙ ap (λ (ss : List Slot). listed begun.top.items ++ items_of ss) begun.slots ∙ append-nil (listed begun.top.items)

    pub tree_ahead : Tree G rules terminals → Ahead G w c
    tree_ahead t =
        let u = subst (λ (rs : List ℕ). Tree G rs terminals) begun.rules_rest t in
        let o : Some u.0 ≡ Some record { left = begun.left; items = begun.top.items } = sym u.1 ∙ begun.known in
        let s : u.0 ≡ record { left = begun.left; items = begun.top.items } = cc in
        let f = subst (λ (rule : Rule). Forest G (listed rule.items) (rules_left w) terminals) s u.2 in
        let h = subst (λ (ts : List ℕ). Forest G (listed begun.top.items) (rules_left w) ts) (sym begun.terminals_rest) f in
        subst (λ (xs : List Item). Forest G xs (rules_left w) (terminals_left w)) (sym whole) h

    pub ahead_tree : Ahead G w c → Tree G rules terminals
    ahead_tree f =
        let h = subst (λ (xs : List Item). Forest G xs (rules_left w) (terminals_left w)) whole f in
        let k = subst (λ (ts : List ℕ). Forest G (listed begun.top.items) (rules_left w) ts) begun.terminals_rest h in
        subst (λ (rs : List ℕ). Tree G rs terminals) (sym begun.rules_rest) (_, begun.known, k)

  -- what an answer of a walk says in each case
  pub at_some : (c : ℕ) (w v : Walk X) (o : Option Step) (s : Step) → o ≡ Some s → Nexts G c w v (Ok o) → Came G c w v s
  at_some c w v o s is n = subst (λ (x : Option Step). Nexts G c w v (Ok x)) is n

  pub at_last : (c : ℕ) (w v : Walk X) (o : Option Step) → o ≡ None → Nexts G c w v (Ok o) → Ended c w
  at_last c w v o is n = subst (λ (x : Option Step). Nexts G c w v (Ok x)) is n

  pub at_none : (c : ℕ) (w v : Walk X) (o : Option Step) → o ≡ None → Nexts G c w v (Ok o) → Ahead G w c
  at_none c w v o is n =
      let e = at_last c w v o is n in
      let a = subst (λ (ss : List Slot). Forest G (items_of ss) [] []) (sym e.slots) none in
      let b = subst (λ (rs : List ℕ). Forest G (items_of (pending w c)) rs []) (sym e.rules) a in
      subst (λ (ts : List ℕ). Forest G (items_of (pending w c)) (rules_left w) ts) (sym e.terminals) b

-- the same answer under the same grammar
pub under : {X : Type 0} {G H : Model} (c : ℕ) (w v : Walk X) (o : Option Step) → G ≡ H → Nexts G c w v (Ok o) → Nexts H c w v (Ok o)
under c w v o same n = subst (λ (M : Model). Nexts M c w v (Ok o)) same n
