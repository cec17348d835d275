use Rattle.std.proofs.Common.{◌≡◌, ℕ, List, length, refl, subst, inl, MutBor}
use Rattle.std.proofs.lemmas.Result.{err_from_is_err_and}
use Rattle.grammar.specs.Block.{block}
use Rattle.policy.specs.Policies.{step}
use Rattle.tree.specs.declared.node.Node.{Node}
use Rattle.tree.specs.declared.piece.PieceRecord.{PieceRecord}
use Rattle.galley.specs.declared.galley.Galley.{Galley}
use Rattle.galley.specs.Prints.{Prints}
use Rattle.galley.specs.Views.{Empty}
use Rattle.formatter.specs.Reindents.{Roomy}
use Rattle.formatter.proofs.Whole.{reindents}
use Rattle.formatter.proofs.reindent.reindent.Goals as goal

-- a new galley over memories of these lengths
roomy : (number : ℕ) (bytes : MutBor (List ℕ)) (pieces : MutBor (List PieceRecord)) (nodes : MutBor (List Node)) (x : Galley)
    → length bytes.now ≡ 4096 → length pieces.now ≡ 128 → length nodes.now ≡ 1785 → Empty number bytes pieces nodes x → Roomy x
roomy number bytes pieces nodes x b p n e = record {
  bytes = rw e.byte_memory b;
  pieces = rw e.piece_memory p;
  nodes = rw e.node_memory n;
  empty = e.no_nodes;
  unlaid = e.unlaid;
}

pub returns-in_err-read-clause-is : goal.returns-in_err-read-clause-is
returns-in_err-read-clause-is c =
    let p = err_from_is_err_and c.from_residual.result c.from_residual.ensures.1 in
    rw (p.1, p.2) (
      refl,
      inl (record {
        x = c.new-galley.result;
        y = c.read.new.self;
        roomy = roomy 1 _ _ _ c.new-galley.result refl refl refl c.new-galley.ensures;
        reads = c.in_err-read.ensures.answer;
      }),
    )

pub returns-clause-is : goal.returns-clause-is
returns-clause-is c =
    let y = c.read.new.self in
    let old = c.args.out.now in
    let r = c.lay_and_write.result in
    let new = c.lay_and_write.new.buffer in
    let written = c.lay_and_write.ensures in
    let writes = subst (λ (w : ℕ). Prints block (step w) y old 0 r c.lay_and_write.new.self new) c.in_ok-policy.ensures.0 written.prints in
    reindents c.args.text.now old c.new-galley.result y c.lay_and_write.new.self new
    (roomy 1 _ _ _ c.new-galley.result refl refl refl c.new-galley.ensures) c.in_ok-read.ensures.answer r writes written.fits
