-- What the parts of a walk's step do.
--   Still     a walk stands where the other does
--   Goes      a walk goes on over the same tree, and the same nodes wait
--   Blocked   no piece and no node that comes next is what the symbol stands for
--   Opens     the node whose item comes next, if an item is to come
--   Keeps     a node with items to come waits, unless too many do
--   Enters    the walk has come to the next node, whatever the symbol on the left of its rule, or there is no such node
--   Covers    an item covers what comes next, or that is not what its symbol stands for
--   Ends      nothing is left over at the end, or something is
use Rattle.std.specs.Prelude.{◌≡◌, ℕ, ◌<◌, List, [], ◌∷◌, ◌++◌, length, Some, None, Ok, Err, Option, Result, ◌≢◌}
use Rattle.std.specs.List.{slice_get}
use Rattle.faults.specs.declared.fault.Fault.{Fault}
use Rattle.faults.specs.declared.fault.Fault.TheVariants.{GrammarMismatch}
use Rattle.grammar.specs.declared.rule.Symbol.{Symbol}
use Rattle.grammar.specs.declared.rule.Symbol.TheVariants.{Terminal, Nonterminal}
use Rattle.grammar.specs.declared.rule.Rule.{Rule}
use Rattle.grammar.specs.Model.{Model}
use Rattle.tree.specs.declared.frame.Frame.{Frame}
use Rattle.tree.specs.declared.walk.Walk.{Walk}
use Rattle.tree.specs.declared.walk.Step.{Step}
use Rattle.tree.specs.Slots.{frame_slots, rest_slots}
use Rattle.tree.specs.Walks.{Same, Takes, pending, rules_left, terminals_left, waiting_slots}

abbrev pub Blocked : Model → Symbol → List ℕ → List ℕ → Type 0
Blocked G (Terminal t) rules terminals = (ts : List ℕ) → terminals ≢ t ∷ ts
Blocked G (Nonterminal a) rules terminals =
    (r : ℕ) (rs : List ℕ) (rule : Rule) → rules ≡ r ∷ rs → slice_get G.rules r ≡ Some rule → rule.left ≢ a

module _ {X : Type 0} where
  pub record Still (w v : Walk X) : Type 0 where
    pub same : Same w v
    pub nodes : v.nodes ≡ w.nodes
    pub piece : v.piece ≡ w.piece

  pub record Goes (w v : Walk X) : Type 0 where
    pub same : Same w v
    pub waiting : v.waiting ≡ w.waiting

  abbrev pub Opens : ℕ → Walk X → Walk X → Option Frame → Type 0
  Opens column w v None = pending w column ≡ []
  Opens column w v (Some f) = pending w column ≡ frame_slots f ++ waiting_slots v

  abbrev pub Keeps : Option Frame → Walk X → Walk X → Result Unit Fault → Type 0
  Keeps rest w v (Ok u) = waiting_slots v ≡ rest_slots rest ++ waiting_slots w
  Keeps rest w v (Err f) = (f ≡ GrammarMismatch) × (128 < length (rest_slots rest ++ waiting_slots w))

  abbrev pub Enters : Model → Walk X → Walk X → Result ℕ Fault → Type 0
  Enters G w v (Ok left) = Takes G (Nonterminal left) w v
  Enters G w v (Err f) = (f ≡ GrammarMismatch) × ((a : ℕ) → Blocked G (Nonterminal a) (rules_left w) (terminals_left w))

  abbrev pub Covers : Model → Symbol → Walk X → Walk X → Result Unit Fault → Type 0
  Covers G symbol w v (Ok u) = Takes G symbol w v
  Covers G symbol w v (Err f) = (f ≡ GrammarMismatch) × Blocked G symbol (rules_left w) (terminals_left w)

  abbrev pub Ends : Walk X → Result (Option Step) Fault → Type 0
  Ends w (Ok None) = (rules_left w ≡ []) × (terminals_left w ≡ [])
  Ends w (Ok (Some s)) = ⊥
  Ends w (Err f) = (f ≡ GrammarMismatch) × (rules_left w ≡ [] → terminals_left w ≢ [])
