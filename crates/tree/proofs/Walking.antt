-- What a walk that cannot go on tells of the tree.
use Rattle.std.proofs.Common.{◌≡◌, ℕ, ◌+◌, ◌<◌, List, ◌∷◌, ◌++◌, length, drop, Bor, sym, ap, ◌∙◌, subst, arith}
use Rattle.std.proofs.lemmas.List.{length-map, length-drop, drop-drop}
use Rattle.grammar.specs.Model.{Model}
use Rattle.tree.specs.declared.node.Node.{Node}
use Rattle.tree.specs.declared.walk.Walk.{Walk}
use Rattle.tree.specs.Forest.{Forest}
use Rattle.tree.specs.Slots.{Slot}
use Rattle.tree.specs.Terminals.{listed}
use Rattle.tree.specs.Covering.{Blocked, Still}
use Rattle.tree.specs.Walks.{Ahead, Same, items_of, pending, rules_left, rules_of, terminals_left}
use Rattle.tree.proofs.Forests.{covers, stopped}

module _ {X : Type 0} (G : Model) (column : ℕ) (w v : Walk X) (still : Still w v) where
  rules-same : rules_left v ≡ rules_left w
  rules-same = ap (λ (ns : Bor (List Node)). rules_of ns.now) still.nodes

  terminals-same : terminals_left v ≡ terminals_left w
  terminals-same = let a = still.same.terminals in let b = still.piece in cc

  -- with more items to come than there are pieces
  pub too_high : (s : Slot) (rest : List Slot) → pending w column ≡ s ∷ rest → 128 < length rest → Ahead G w column → ⊥
  too_high s rest e high ahead =
      let f = covers (subst (λ (ss : List Slot). Forest G (items_of ss) (rules_left w) (terminals_left w)) e ahead) in
      let m : length (items_of rest) ≡ length rest = length-map rest (λ (t : Slot). t.item) in
      let d = length-drop w.piece (listed w.terminals.now) in
      let few = w.terminals.now.few in
      omega arith

  -- at an item that is not what comes next
  pub at_other : (s : Slot) (rest : List Slot) → pending w column ≡ s ∷ rest
      → Blocked G s.item.symbol (rules_left v) (terminals_left v) → Ahead G w column → ⊥
  at_other s rest e b ahead =
      let f = subst (λ (ss : List Slot). Forest G (items_of ss) (rules_left w) (terminals_left w)) e ahead in
      let g = subst (λ (ts : List ℕ). Forest G (items_of (s ∷ rest)) (rules_left w) ts) (sym terminals-same) f in
      let h = subst (λ (rs : List ℕ). Forest G (items_of (s ∷ rest)) rs (terminals_left v)) (sym rules-same) g in
      stopped b h

module _ {X : Type 0} (u v w : Walk X) where
  pub same_on : Same u v → Same v w → Same u w
  same_on a b =
      record {
        grammar = b.grammar ∙ a.grammar;
        nodes = (a.nodes.0 + b.nodes.0, b.nodes.1 ∙ ap (drop b.nodes.0) a.nodes.1 ∙ drop-drop b.nodes.0 a.nodes.0 u.nodes.now);
        terminals = b.terminals ∙ a.terminals;
      }

  pub still_on : Still u v → Still v w → Still u w
  still_on a b = record { same = same_on a.same b.same; nodes = b.nodes ∙ a.nodes; piece = b.piece ∙ a.piece }

-- the first item to come, of the node that comes first
pub first_slot : (all own rest waits : List Slot) (s : Slot) → all ≡ own ++ waits → own ≡ s ∷ rest → all ≡ s ∷ (rest ++ waits)
first_slot all own rest waits s a b = a ∙ ap (λ (ss : List Slot). ss ++ waits) b
