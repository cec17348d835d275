-- What read answers, and what the galley then holds.
--   short      the first memory that is too short for these tokens, tried as bytes, pieces, nodes, chart
--   Read       what reading the tokens answers
--   Took       what taking over a text's tokens answers: that refusal, no reading, or the text held
--   ReadsIn    read itself
--   barred     the first reason not to try: a laid galley, no such symbol, the text's own fault, short memory
--   Settled    that refusal with the galley as it was, no reading likewise, or the text's first reading held and unlaid
use Rattle.std.specs.Prelude.{◌≡◌, ℕ, cond, List, length, is_some, Some, None, Ok, Err, Option, Result, nat_lt}
use Rattle.std.specs.List.{slice_get}
use Rattle.faults.specs.declared.fault.Fault.{Fault}
use Rattle.faults.specs.declared.fault.Fault.TheVariants.{AlreadyLaid, GrammarMismatch, ShortMemory, NoReading}
use Rattle.faults.specs.declared.fault.Memory.TheVariants.{Bytes, Pieces}
use Rattle.grammar.specs.Model.{Model}
use Rattle.text.specs.declared.token.Token.{Token}
use Rattle.text.specs.Verdict.{Verdict, Judged, accepted, refused}
use Rattle.chart.specs.Answer.{unfit, place_of}
use Rattle.chart.specs.Trees.{Tree}
use Rattle.chart.specs.Readings.{Reading}
use Rattle.chart.specs.First.{FirstReading, Reach}
use Rattle.chart.specs.Nodes as nodes
use Rattle.tree.specs.declared.node.Node.{Node}
use Rattle.galley.specs.declared.store.Store.{Store}
use Rattle.galley.specs.declared.held.Held.{Held}
use Rattle.galley.specs.declared.galley.Galley.{Galley}
use Rattle.galley.specs.Stores.{front, room}
use Rattle.galley.specs.Views.{Unchanged}
use Rattle.galley.specs.Loads.{bytes_of, byte_count, records_of}

abbrev pub short : Model → ℕ → Held → List Token → ℕ → Option Fault
short G symbol h ts cells =
    cond (nat_lt (room h.bytes) (byte_count ts)) (Some (ShortMemory Bytes))
    (cond (nat_lt (room h.pieces) (length ts)) (Some (ShortMemory Pieces))
    (unfit G symbol (length ts) (room h.nodes) cells))

-- no reading exists; the fault is at the last token p with p = 0 or a reading of the first p tokens
pub record NoReadingOf (G : Model) (A : ℕ) (ts : List Token) (f : Fault) : Type 0 where
  pub none : (t : Tree) → Reading G ts A t → ⊥
  pub place : (p : ℕ) × (at : Token) × Reach G ts A (length ts) p × (slice_get ts p ≡ Some at) × (f ≡ NoReading (place_of at))

-- these are the nodes of the first reading
abbrev pub FirstHeld : Model → ℕ → List Token → List Node → Type 0
FirstHeld G A ts ns = (t : Tree) × FirstReading G ts A t × nodes.Holds G ns t

-- the nodes of the first reading, in a memory of the same size, or a refusal with the memory as it was
abbrev pub Read : Option Fault → Model → ℕ → List Token → Store Node → Result Unit Fault → Store Node → Type 0
Read (Some f) G A ts s r t = (r ≡ Err f) × (t ≡ s)
Read None G A ts s (Ok u) t = (room t ≡ room s) × FirstHeld G A ts (front t)
Read None G A ts s (Err f) t = NoReadingOf G A ts f × (t ≡ s)

-- the first reading of the text with its pieces, in memories of the same size
pub record Holds (G : Model) (A : ℕ) (text : List ℕ) (ts : List Token) (h k : Held) : Type 0 where
  pub bytes : front k.bytes ≡ bytes_of text ts
  pub pieces : front k.pieces ≡ records_of ts
  pub tree : FirstHeld G A ts (front k.nodes)
  pub byte_room : room k.bytes ≡ room h.bytes
  pub piece_room : room k.pieces ≡ room h.pieces
  pub node_room : room k.nodes ≡ room h.nodes

abbrev pub Took : Option Fault → Model → ℕ → List ℕ → List Token → Held → Result Unit Fault → Held → Type 0
Took (Some f) G A text ts h r k = (r ≡ Err f) × (k ≡ h)
Took None G A text ts h (Ok u) k = Holds G A text ts h k
Took None G A text ts h (Err f) k = NoReadingOf G A ts f × (k ≡ h)

abbrev pub barred : Model → Galley → ℕ → Verdict → ℕ → Option Fault
barred G x symbol v cells =
    cond (is_some x.laid) (Some AlreadyLaid)
    (cond (nat_lt symbol G.nonterminals)
    (elim v [ refused f ↦ Some f | accepted ts ↦ short G symbol x.held ts cells ])
    (Some GrammarMismatch))

abbrev pub Settled : Option Fault → Verdict → Model → ℕ → List ℕ → Galley → Result Unit Fault → Galley → Type 0
Settled (Some f) v G A text x r y = (r ≡ Err f) × Unchanged x y
Settled None (refused g) G A text x r y = ⊥
Settled None (accepted ts) G A text x (Ok u) y = (y.number ≡ x.number) × (y.laid ≡ None) × Holds G A text ts x.held y.held
Settled None (accepted ts) G A text x (Err f) y = NoReadingOf G A ts f × Unchanged x y

-- reading the tokens, taking over a text, and the call itself, each from a symbol with so many chart numbers
abbrev pub Reads : Model → ℕ → ℕ → List Token → Store Node → Result Unit Fault → Store Node → Type 0
Reads G A cells ts s r t = Read (unfit G A (length ts) (room s) cells) G A ts s r t

abbrev pub TakesOver : Model → ℕ → ℕ → List ℕ → List Token → Held → Result Unit Fault → Held → Type 0
TakesOver G A cells text ts h r k = Took (short G A h ts cells) G A text ts h r k

-- v is the verdict on the text, of which there is just one
abbrev pub ReadsIn : Model → ℕ → List ℕ → ℕ → Galley → Result Unit Fault → Galley → Type 0
ReadsIn G A text cells x r y = (v : Verdict) → Judged G text v → Settled (barred G x A v cells) v G A text x r y
