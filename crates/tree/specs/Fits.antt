-- A tree under a grammar, as bytes, pieces and rule numbers.
--   Fits   the grammar has a terminal for the bytes of each piece, and the rule numbers give one tree over just these pieces
use Rattle.std.specs.Prelude.{◌≡◌, ℕ, List, Some}
use Rattle.grammar.specs.Model.{Model}
use Rattle.tree.specs.declared.piece.PieceRecord.{PieceRecord}
use Rattle.tree.specs.Forest.{Tree}
use Rattle.tree.specs.Terminals.{terminals_of}

abbrev pub Fits : Model → List ℕ → List PieceRecord → List ℕ → Type 0
Fits G bytes pieces rules = (ts : List ℕ) × (terminals_of G bytes pieces ≡ Some ts) × Tree G rules ts
