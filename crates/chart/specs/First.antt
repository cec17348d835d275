-- The first reading of tokens, chosen from the top down.
--   LowestRule     the lowest rule that can be completed at a node with A over the tokens from i up to j at column c
--   CutAt          x can end at k, and the others, xs, can be completed from there up to j
--   Shortest       k is the end of the shortest first item, x, with which the others, xs, can be completed up to j
--   Least          d is the least column that meets the item's relation and lets its stretch be completed
--   First          the tree is chosen so at each node, with A and column c on top, over the tokens from i up to j
--   Firsts         so are the trees under a node at column c, whose items divide the tokens from i up to j
--   FirstReading   the tree stands over all tokens, and its top takes the least column from which there is a reading
--   Reads          there is a reading of the first p tokens
--   Reach          among the tokens below n, the last one p with p = 0 or a reading of the first p tokens
use Rattle.std.specs.Prelude.{◌≡◌, ℕ, suc, ◌<◌, ◌⊎◌, List, [], ◌∷◌, length, take, Some}
use Rattle.std.specs.List.{slice_get}
use Rattle.columns.specs.Relation.{Meets}
use Rattle.columns.specs.Mask.{Near}
use Rattle.grammar.specs.declared.rule.Symbol.TheVariants.{Terminal, Nonterminal}
use Rattle.grammar.specs.declared.rule.Item.{Item}
use Rattle.grammar.specs.declared.rule.Rule.{Rule}
use Rattle.grammar.specs.Model.{Model}
use Rattle.grammar.specs.Several.{listed}
use Rattle.grammar.specs.Lawful.{Lawful}
use Rattle.text.specs.declared.token.Token.{Token}
use Rattle.chart.specs.Trees.{Tree, Children}
use Rattle.chart.specs.Readings.{Derives, Part, Row, ByRule, Reading}

pub record LowestRule (G : Model) (ts : List Token) (A i j c r : ℕ) : Type 0 where
  pub fits : ByRule G ts r A i j c
  pub least : (q : ℕ) → q < r → ByRule G ts q A i j c → ⊥

-- the first item ends at k, and the others can be completed behind it
abbrev pub CutAt : Model → List Token → Item → List Item → ℕ → ℕ → ℕ → ℕ → Type 0
CutAt G ts x xs i j c k = Near x.relation (Part G ts x.symbol i k) c × Row G ts xs k j c

pub record Shortest (G : Model) (ts : List Token) (x : Item) (xs : List Item) (i j c k : ℕ) : Type 0 where
  pub front : Near x.relation (Part G ts x.symbol i k) c
  pub back : Row G ts xs k j c
  pub least : (m : ℕ) → m < k → Near x.relation (Part G ts x.symbol i m) c → Row G ts xs m j c → ⊥

pub record Least (G : Model) (ts : List Token) (x : Item) (i j c d : ℕ) : Type 0 where
  pub meets : Meets x.relation c d
  pub part : Part G ts x.symbol i j d
  pub least : (e : ℕ) → e < d → Meets x.relation c e → Part G ts x.symbol i j e → ⊥

abbrev mutual
  pub First : Model → List Token → Tree → ℕ → ℕ → ℕ → ℕ → Type 0
  First G ts (Tree.node r cs) A i j c =
      LowestRule G ts A i j c r × ((rule : Rule) × (slice_get G.rules r ≡ Some rule) × Firsts G ts cs (listed rule.items) i j c)

  pub Firsts : Model → List Token → Children → List Item → ℕ → ℕ → ℕ → Type 0
  Firsts G ts Children.none [] i j c = i ≡ j
  Firsts G ts Children.none (x ∷ xs) i j c = ⊥
  Firsts G ts (Children.piece cs) [] i j c = ⊥
  Firsts G ts (Children.piece cs) (x ∷ xs) i j c =
      (a : ℕ) × (x.symbol ≡ Terminal a) × Shortest G ts x xs i j c (suc i) × Firsts G ts cs xs (suc i) j c
  Firsts G ts (Children.tree t cs) [] i j c = ⊥
  Firsts G ts (Children.tree t cs) (x ∷ xs) i j c =
      (b : ℕ) × (k : ℕ) × (d : ℕ) × (x.symbol ≡ Nonterminal b) × Shortest G ts x xs i j c k × Least G ts x i k c d
      × First G ts t b i k d × Firsts G ts cs xs k j c

abbrev pub FirstReading : Model → List Token → ℕ → Tree → Type 0
FirstReading G ts A t =
    (c : ℕ) × First G ts t A 0 (length ts) c × ((d : ℕ) → d < c → Derives G ts A 0 (length ts) d → ⊥)

abbrev pub Reads : Model → List Token → ℕ → ℕ → Type 0
Reads G ts A p = (t : Tree) × Reading G (take p ts) A t

pub record Reach (G : Model) (ts : List Token) (A n p : ℕ) : Type 0 where
  pub within : p < n
  pub reads : (p ≡ 0) ⊎ ((t : Tree) × Reading G (take p ts) A t)
  pub last : (q : ℕ) → p < q → q < n → (t : Tree) → Reading G (take q ts) A t → ⊥

-- a first reading is a reading
abbrev pub FirstReads : Type 0
FirstReads = (G : Model) (ts : List Token) (A : ℕ) (t : Tree) → FirstReading G ts A t → Reading G ts A t

-- there is at most one
abbrev pub FirstIsOne : Type 0
FirstIsOne = (G : Model) (ts : List Token) (A : ℕ) (t u : Tree) → FirstReading G ts A t → FirstReading G ts A u → t ≡ u

-- under a lawful grammar there is one wherever there is a reading
abbrev pub FirstExists : Type 0
FirstExists =
    (G : Model) (ts : List Token) (A : ℕ) (t : Tree) → Lawful G → Reading G ts A t → (u : Tree) × FirstReading G ts A u
