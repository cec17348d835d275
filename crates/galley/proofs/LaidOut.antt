-- A galley that was laid out.
use Rattle.std.proofs.Common.{◌≡◌, ℕ, false, eqb, List, is_some, Ok, Result, sym, subst, arith}
use Rattle.std.proofs.lemmas.Bool.Decides.{nat_tests}
use Rattle.faults.specs.declared.fault.Fault.{Fault}
use Rattle.grammar.specs.Model.{Model}
use Rattle.policy.specs.declared.question.Question.{Question}
use Rattle.policy.specs.declared.question.Answer.{Answer}
use Rattle.tree.specs.declared.node.Node.{Node}
use Rattle.tree.specs.declared.piece.PieceRecord.{PieceRecord}
use Rattle.tree.specs.Walks.{rules_of}
use Rattle.layout.specs.declared.placement.Layout.{Layout}
use Rattle.layout.specs.Layouts.{Laid, listed}
use Rattle.galley.specs.declared.galley.Galley.{Galley}
use Rattle.galley.specs.declared.slip.Slip.{Slip}
use Rattle.galley.specs.Stores.{front}
use Rattle.galley.specs.Lays.{no_lay, LaidOut, Stands, Lays}

-- what is lent is what is held
pub laid_at : (G : Model) (P : Question → Answer) (x : Galley) (r : Result Layout Fault) (bs : List ℕ) (ps : List PieceRecord) (ns : List
    Node)
    → bs ≡ front x.held.bytes → ps ≡ front x.held.pieces → ns ≡ front x.held.nodes → Laid G P bs ps (rules_of ns) r → LaidOut
    G P x r
laid_at G P x r bs ps ns b p n l =
    let one = subst (λ (ys : List ℕ). Laid G P ys ps (rules_of ns) r) b l in
    let two = subst (λ (ys : List PieceRecord). Laid G P (front x.held.bytes) ys (rules_of ns) r) p one in
    subst (λ (ys : List Node). Laid G P (front x.held.bytes) (front x.held.pieces) (rules_of ys) r) n two

pub lays : (G : Model) (P : Question → Answer) (x y : Galley) (s : Slip) (l : Layout) → false ≡ is_some x.laid → (x.held.nodes.used
    ≡ 0 → ⊥)
    → LaidOut G P x (Ok l) → Stands (listed l) x s y → Lays (no_lay x) G P x (Ok s) y
lays G P x y s l unlaid some out stands =
    let a : is_some x.laid ≡ false = sym unlaid in
    let b : eqb x.held.nodes.used 0 ≡ false = grind (arith, nat_tests) in
    rw (a, b) (l, out, stands)
