-- The terminals of pieces.
--   listed         the terminals in the order of the pieces
--   terminals_of   what a grammar gives pieces whose bytes stand without gaps; none where it has none for one of them
use Rattle.std.specs.Prelude.{◌≡◌, ℕ, List, [], ◌∷◌, take, drop, Some, None, Ok, Err, Option, Result}
use Rattle.faults.specs.declared.fault.Fault.{Fault}
use Rattle.faults.specs.declared.fault.Fault.TheVariants.{GrammarMismatch}
use Rattle.grammar.specs.Model.{Model, terminal_of}
use Rattle.tree.specs.declared.piece.PieceRecord.{PieceRecord}
use Rattle.tree.specs.declared.terminals.Terminals.{Terminals}

abbrev pub listed : Terminals → List ℕ
listed ts = ts.list.items

-- one more in front
abbrev pub before : Option ℕ → Option (List ℕ) → Option (List ℕ)
before None rest = None
before (Some t) None = None
before (Some t) (Some ts) = Some (t ∷ ts)

abbrev pub terminals_of : Model → List ℕ → List PieceRecord → Option (List ℕ)
terminals_of G bytes [] = Some []
terminals_of G bytes (p ∷ ps) = before (terminal_of G (take p.length bytes)) (terminals_of G (drop p.length bytes) ps)

abbrev pub Named : Model → List ℕ → List PieceRecord → Result Terminals Fault → Type 0
Named G bytes ps (Ok ts) = terminals_of G bytes ps ≡ Some (listed ts)
Named G bytes ps (Err f) = (terminals_of G bytes ps ≡ None) × (f ≡ GrammarMismatch)
