-- What a read of tokens answers.
--   unfit      the first reason to refuse before anything is read: no such symbol, no tokens, too few nodes, too small a chart
--   place_of   where a token begins
--   Read       the first reading, its nodes in front and all behind them as it was; or that there is no reading, nothing changed,
--              and the place of the last token p with p = 0 or a reading of the first p tokens
--   Answered   the refusal, nothing changed; or what is read
use Rattle.std.specs.Prelude.{◌≡◌, ℕ, ◌+◌, ◌*◌, cond, List, ◌++◌, length, drop, Some, None, Ok, Err, Option, Result, ◌==◌, nat_lt}
use Rattle.std.specs.List.{slice_get}
use Rattle.faults.specs.declared.fault.Fault.{Fault}
use Rattle.faults.specs.declared.fault.Fault.TheVariants.{GrammarMismatch, PieceCount, ShortMemory, NoReading}
use Rattle.faults.specs.declared.fault.Memory.TheVariants.{Nodes, Chart}
use Rattle.faults.specs.declared.fault.Position.{Position}
use Rattle.grammar.specs.Model.{Model}
use Rattle.text.specs.declared.token.Token.{Token}
use Rattle.tree.specs.declared.node.Node.{Node}
use Rattle.chart.specs.Place.{tri, nodes_of}
use Rattle.chart.specs.Trees.{Tree}
use Rattle.chart.specs.Readings.{Reading}
use Rattle.chart.specs.First.{FirstReading, Reach}
use Rattle.chart.specs.Nodes.{Holds}

abbrev pub unfit : Model → ℕ → ℕ → ℕ → ℕ → Option Fault
unfit G symbol count nodes cells =
    cond (nat_lt symbol G.nonterminals)
    (cond (count == 0) (Some PieceCount)
    (cond (nat_lt nodes (nodes_of G.nonterminals count)) (Some (ShortMemory Nodes))
    (cond (nat_lt cells (tri (count + 1) * G.nonterminals)) (Some (ShortMemory Chart)) None)))
    (Some GrammarMismatch)

abbrev pub place_of : Token → Position
place_of t = record { line = t.line; column = t.column }

abbrev pub Read : Model → List Token → ℕ → List Node → List Node → Result ℕ Fault → Type 0
Read G ts A old new (Ok count) =
    (t : Tree) × (ns : List Node) × FirstReading G ts A t × Holds G ns t × (count ≡ length ns) × (new ≡ ns ++ drop count old)
Read G ts A old new (Err f) =
    ((t : Tree) → Reading G ts A t → ⊥)
    × ((p : ℕ) × (at : Token) × Reach G ts A (length ts) p × (slice_get ts p ≡ Some at) × (f ≡ NoReading (place_of at))) × (new ≡ old)

-- by the reason to refuse, if there is one
abbrev pub Judged : Option Fault → Model → List Token → ℕ → List Node → List Node → Result ℕ Fault → Type 0
Judged (Some f) G ts A old new r = (r ≡ Err f) × (new ≡ old)
Judged None G ts A old new r = Read G ts A old new r

abbrev pub Answered : Model → List Token → ℕ → ℕ → List Node → List Node → Result ℕ Fault → Type 0
Answered G ts A cells old new r = Judged (unfit G A (length ts) (length old) cells) G ts A old new r
