-- A walk over the items of a tree, and what is still to come.
--   rules_of, items_of   the rule numbers of nodes; the items that are to come, without their columns
--   slot_of              the item that a step has come to
--   waiting_slots        the items of the nodes that wait
--   pending              all items to come, where the node that the walk came to last has that column
--   rules_left, terminals_left   the rule numbers of the nodes to come, the terminals of the pieces to come
--   Ahead                the rest of the rule numbers gives one tree for each item to come, over just the rest of the terminals
--   From                 the nodes to come, those of a list from a number on
--   Same, Over           a walk over the same tree under the same grammar; under that grammar over those nodes and terminals
--   Takes                an item covers the piece or the node that comes next
--   Begun, Begins        a walk has come to the top of a tree and no further; that, or there is no such tree
--   Came, Ended, Nexts   the walk has come to an item; to the end; one of these, or there is no such tree
use Rattle.std.specs.Prelude.{◌≡◌, ℕ, ◌+◌, List, [], ◌∷◌, ◌++◌, map, reverse, drop, Some, None, Ok, Err, Option, Result}
use Rattle.std.specs.Borrow.{Bor}
use Rattle.std.specs.List.{flat_map, slice_get}
use Rattle.faults.specs.declared.fault.Fault.{Fault}
use Rattle.faults.specs.declared.fault.Fault.TheVariants.{GrammarMismatch}
use Rattle.grammar.specs.declared.rule.Symbol.{Symbol}
use Rattle.grammar.specs.declared.rule.Symbol.TheVariants.{Terminal, Nonterminal}
use Rattle.grammar.specs.declared.rule.Item.{Item}
use Rattle.grammar.specs.Model.{Model}
use Rattle.grammar.specs.declared.rule.Expansion.{Expansion}
use Rattle.tree.specs.declared.node.Node.{Node}
use Rattle.tree.specs.declared.terminals.Terminals.{Terminals}
use Rattle.tree.specs.declared.walk.Walk.{Walk}
use Rattle.tree.specs.declared.walk.Step.{Step}
use Rattle.tree.specs.Forest.{Forest, Tree}
use Rattle.tree.specs.Slots.{Slot, frame_slots, entered_slots}
use Rattle.tree.specs.Terminals.{listed}

-- the rule numbers of nodes
abbrev pub rules_of : List Node → List ℕ
rules_of ns = map (λ (n : Node). n.rule) ns

abbrev pub From : List Node → List Node → Type 0
From all left = (passed : ℕ) × (left ≡ drop passed all)

abbrev pub items_of : List Slot → List Item
items_of ss = map (λ (s : Slot). s.item) ss

-- the item that a step has come to
abbrev pub slot_of : Step → Slot
slot_of s = record { rule = s.rule; column = s.column; index = s.index; item = s.item }

module _ {X : Type 0} where
  abbrev pub waiting_slots : Walk X → List Slot
  waiting_slots w = flat_map frame_slots (reverse w.waiting.items)

  abbrev pub pending : Walk X → ℕ → List Slot
  pending w column = entered_slots w.entered column ++ waiting_slots w

  abbrev pub rules_left : Walk X → List ℕ
  rules_left w = rules_of w.nodes.now

  abbrev pub terminals_left : Walk X → List ℕ
  terminals_left w = drop w.piece (listed w.terminals.now)

  -- a walk over the same tree under the same grammar
  pub record Same (w v : Walk X) : Type 0 where
    pub grammar : v.grammar ≡ w.grammar
    pub nodes : From w.nodes.now v.nodes.now
    pub terminals : v.terminals ≡ w.terminals

  abbrev pub Ahead : Model → Walk X → ℕ → Type 0
  Ahead G w column = Forest G (items_of (pending w column)) (rules_left w) (terminals_left w)

  abbrev pub Takes : Model → Symbol → Walk X → Walk X → Type 0
  Takes G (Terminal t) w v =
      (terminals_left w ≡ t ∷ terminals_left v) × (rules_left v ≡ rules_left w) × (v.entered ≡ None) × (v.piece ≡ w.piece + 1)
  Takes G (Nonterminal a) w v =
      (e : Expansion)
      × (v.entered ≡ Some e)
      × (slice_get G.rules e.rule ≡ Some record { left = a; items = e.items })
      × (rules_left w ≡ e.rule ∷ rules_left v)
      × (terminals_left v ≡ terminals_left w)
      × (v.piece ≡ w.piece)

  pub record Came (G : Model) (column : ℕ) (w v : Walk X) (s : Step) : Type 0 where
    pub slot : pending w column ≡ slot_of s ∷ waiting_slots v
    pub piece : s.piece ≡ w.piece
    pub takes : Takes G s.item.symbol w v

  -- a walk under that grammar over those nodes and terminals
  abbrev pub Over : Bor X → Bor (List Node) → Bor Terminals → Walk X → Type 0
  Over grammar nodes terminals w =
      (w.grammar ≡ grammar) × From nodes.now w.nodes.now × (w.terminals ≡ terminals)

  pub record Begun (G : Model) (rules terminals : List ℕ) (w : Walk X) : Type 0 where
    pub top : Expansion
    pub entered : w.entered ≡ Some top
    pub left : ℕ
    pub known : slice_get G.rules top.rule ≡ Some record { left = left; items = top.items }
    pub rules_rest : rules ≡ top.rule ∷ rules_left w
    pub terminals_rest : terminals_left w ≡ terminals
    pub slots : waiting_slots w ≡ []
    pub piece : w.piece ≡ 0

  pub record Ended (column : ℕ) (w : Walk X) : Type 0 where
    pub slots : pending w column ≡ []
    pub rules : rules_left w ≡ []
    pub terminals : terminals_left w ≡ []

  abbrev pub Nexts : Model → ℕ → Walk X → Walk X → Result (Option Step) Fault → Type 0
  Nexts G column w v (Ok None) = Ended column w
  Nexts G column w v (Ok (Some s)) = Came G column w v s
  Nexts G column w v (Err f) = (f ≡ GrammarMismatch) × (Ahead G w column → ⊥)

  abbrev pub Begins : Model → List ℕ → List ℕ → Result (Walk X) Fault → Type 0
  Begins G rules terminals (Ok w) = Begun G rules terminals w
  Begins G rules terminals (Err f) = (f ≡ GrammarMismatch) × (Tree G rules terminals → ⊥)
