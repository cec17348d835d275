-- A layout as the turns of the items, in the order of the text.
--   Turn       an item has its answer: one that covers a node, or one that covers a piece of that length
--   Turns      the turns of the items to come, with the cursor where it stands, the rule numbers of the nodes and the lengths of the pieces
--   TurnsOut   the turns of a whole tree, whose top stands in column 0
--   pieces     how many turns cover a piece
--   nodes      turns that cover nodes
--   asks       one of these answers asks for a break
--   Breaks     lines break where and only where they should. The first piece opens no line. Each other piece opens one just if a break
--              was asked since the piece before it, or that piece with a blank behind it reaches past its column
use Rattle.std.specs.Prelude.{◌≡◌, ℕ, suc, ◌+◌, Bool, false, ◌||◌, List, [], ◌∷◌, ◌++◌, map, Some, nat_lt}
use Rattle.std.specs.List.{slice_get}
use Rattle.grammar.specs.declared.rule.Symbol.TheVariants.{Terminal, Nonterminal}
use Rattle.grammar.specs.declared.rule.Rule.{Rule}
use Rattle.grammar.specs.Model.{Model}
use Rattle.grammar.specs.Several.{listed}
use Rattle.policy.specs.declared.question.Question.{Question}
use Rattle.policy.specs.declared.question.Answer.{Answer}
use Rattle.tree.specs.Slots.{Slot, slots}
use Rattle.layout.specs.declared.placement.Placement.{Placement}
use Rattle.layout.specs.Questions.{answer_of}

pub data Turn : Type 0 where
  node : Answer → Turn
  piece : Answer → ℕ → Turn

pub data Turns (G : Model) (P : Question → Answer) : ℕ → List Slot → List ℕ → List ℕ → List Turn → Type 0 where
  none : {cursor : ℕ} → Turns G P cursor [] [] [] []
  piece : {cursor : ℕ} {s : Slot} {ss : List Slot} {rs ls : List ℕ} {l t : ℕ} {a : Answer} {ns : List Turn}
      → a ≡ answer_of P cursor s
      → s.item.symbol ≡ Terminal t
      → Turns G P (a.column + l + 1) ss rs ls ns
      → Turns G P cursor (s ∷ ss) rs (l ∷ ls) (Turn.piece a l ∷ ns)
  node : {cursor : ℕ} {s : Slot} {ss : List Slot} {rs ls : List ℕ} {r : ℕ} {rule : Rule} {a : Answer} {ns : List Turn}
      → a ≡ answer_of P cursor s
      → s.item.symbol ≡ Nonterminal rule.left
      → slice_get G.rules r ≡ Some rule
      → Turns G P cursor (slots r a.column 0 (listed rule.items) ++ ss) rs ls ns
      → Turns G P cursor (s ∷ ss) (r ∷ rs) ls (Turn.node a ∷ ns)

abbrev pub TurnsOut : Model → (Question → Answer) → List ℕ → List ℕ → List Turn → Type 0
TurnsOut G P [] ls ns = ⊥
TurnsOut G P (r ∷ rs) ls ns = (rule : Rule) × (slice_get G.rules r ≡ Some rule) × Turns G P 0 (slots r 0 0 (listed rule.items)) rs ls ns

abbrev pub pieces : List Turn → ℕ
pieces [] = 0
pieces (Turn.node a ∷ ns) = pieces ns
pieces (Turn.piece a l ∷ ns) = suc (pieces ns)

abbrev pub nodes : List Answer → List Turn
nodes bs = map Turn.node bs

abbrev pub asks : List Answer → Bool
asks [] = false
asks (a ∷ bs) = a.breaks || asks bs

pub record Breaks (ns : List Turn) (places : List Placement) : Type 0 where
  -- the first piece
  pub first : (bs : List Answer) (a : Answer) (l : ℕ) (after : List Turn) → ns ≡ nodes bs ++ Turn.piece a l ∷ after
      → slice_get places 0 ≡ Some (record { column = a.column; opens_line = false })
  -- a piece behind another that has length m, with the nodes between them
  pub later : (before : List Turn) (b : Answer) (m : ℕ) (bs : List Answer) (a : Answer) (l : ℕ) (after : List Turn)
      → ns ≡ before ++ Turn.piece b m ∷ (nodes bs ++ Turn.piece a l ∷ after)
      → slice_get places (suc (pieces before))
      ≡ Some (record { column = a.column; opens_line = asks (bs ++ a ∷ []) || nat_lt a.column (b.column + m + 1) })
