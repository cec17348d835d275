-- One item placed.
--   Within    a piece that an item covers is there
--   Puts      an item took its column: its piece was placed, or a break may wait for the first piece of its node
--   taken     the column that an item takes, and whether it asks for a break
--   Putting   an item's column with what was placed, or a refusal and nothing placed
use Rattle.std.specs.Prelude.{◌≡◌, ℕ, ◌<◌, ◌≤◌, List, [], ◌∷◌, ◌++◌, Ok, Err, Result, slice_index}
use Rattle.faults.specs.declared.fault.Fault.{Fault}
use Rattle.faults.specs.declared.fault.Fault.TheVariants.{TooDeep}
use Rattle.grammar.specs.declared.rule.Symbol.{Symbol}
use Rattle.grammar.specs.declared.rule.Symbol.TheVariants.{Terminal, Nonterminal}
use Rattle.policy.specs.declared.question.Question.{Question}
use Rattle.policy.specs.declared.question.Answer.{Answer}
use Rattle.tree.specs.declared.walk.Step.{Step}
use Rattle.tree.specs.Walks.{slot_of}
use Rattle.layout.specs.declared.placer.Placer.{Placer}
use Rattle.layout.specs.Lines.{asked, behind, placed}
use Rattle.layout.specs.Questions.{answer_of}

abbrev pub Within : Symbol → ℕ → ℕ → Type 0
Within (Terminal t) piece count = piece < count
Within (Nonterminal a) piece count = Unit {0}

abbrev pub Puts : Symbol → Answer → List ℕ → ℕ → Placer → Placer → Type 0
Puts (Terminal t) a lengths piece before after =
    (after.line ≡ behind a.column (slice_index lengths piece))
    × (after.list.items ≡ before.list.items ++ placed (asked before.line a.breaks) a.column ∷ [])
Puts (Nonterminal n) a lengths piece before after = (after.line ≡ asked before.line a.breaks) × (after.list ≡ before.list)

abbrev pub taken : (Question → Answer) → Step → Placer → Answer
taken policy step p = answer_of policy p.line.cursor (slot_of step)

abbrev pub Putting : (Question → Answer) → Step → List ℕ → Placer → Placer → Result ℕ Fault → Type 0
Putting policy step lengths before after (Ok column) =
    (column ≡ (taken policy step before).column)
    × (column ≤ 63)
    × Puts step.item.symbol (taken policy step before) lengths step.piece before after
Putting policy step lengths before after (Err f) =
    (f ≡ TooDeep step.rule step.index) × (63 < (taken policy step before).column) × (after ≡ before)
