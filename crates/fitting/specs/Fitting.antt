-- Trees that columns fit.
--   Obeys        a policy keeps to the relations, wherever it can be asked while a tree is laid out
--   Short        each piece has at most 32 bytes
--   columns_of   the columns of placements
--   TreeOf       the rule numbers give this tree, with A on top, over just these terminals
--   ReadsAs      that tree is a reading of all tokens that have these terminals and stand in these columns
--   Fitting      some columns from 0 to 63, one for each node and piece, meet all relations of the tree
--   Fittable     the same of the tree that rule numbers give over terminals
use Rattle.std.specs.Prelude.{◌≡◌, ℕ, ◌≤◌, List, map, length}
use Rattle.std.specs.List.{AllByRecursion}
use Rattle.grammar.specs.Model.{Model}
use Rattle.policy.specs.declared.question.Question.{Question}
use Rattle.policy.specs.declared.question.Answer.{Answer}
use Rattle.policy.specs.Answers.{Keeps}
use Rattle.text.specs.declared.token.Token.{Token}
use Rattle.layout.specs.declared.placement.Placement.{Placement}
use Rattle.chart.specs.Trees.{Tree, width, preorder, Covers}
use Rattle.chart.specs.Fits.{Fits}
use Rattle.chart.specs.Readings.{Reading, terminals, columns}

abbrev pub Obeys : (Question → Answer) → Type 0
Obeys P = (q : Question) → q.column ≤ 63 → q.cursor ≤ 96 → Keeps q (P q)

abbrev pub Short : List ℕ → Type 0
Short ls = AllByRecursion (λ (l : ℕ). l ≤ 32) ls

abbrev pub columns_of : List Placement → List ℕ
columns_of ps = map (λ (p : Placement). p.column) ps

pub record TreeOf (G : Model) (rules ts : List ℕ) (t : Tree) (A : ℕ) : Type 0 where
  pub covers : Covers G ts t A 0
  pub all : width t ≡ length ts
  pub numbers : preorder t ≡ rules

abbrev pub ReadsAs : Model → List ℕ → List ℕ → List ℕ → Type 0
ReadsAs G rules ts cs =
    (t : Tree) × (A : ℕ) × TreeOf G rules ts t A
    × ((tokens : List Token) → terminals tokens ≡ ts → columns tokens ≡ cs → Reading G tokens A t)

abbrev pub Fitting : Model → Tree → Type 0
Fitting G t = (cs : List ℕ) × (c : ℕ) × Fits G cs t 0 c

abbrev pub Fittable : Model → List ℕ → List ℕ → Type 0
Fittable G rules ts = (t : Tree) × (A : ℕ) × TreeOf G rules ts t A × Fitting G t
