use Rattle.std.proofs.Common.{[], ◌∷◌, sym, ap, length, ◌∙◌, arith}
use Rattle.std.specs.Slice.Iter.{iter_rest}
use Rattle.std.proofs.lemmas.List.{append-nil}
use Rattle.shape.specs.declared.count.Path.{Path}
use Rattle.shape.specs.Children.{under}
use Rattle.shape.specs.Counted.{path, widened}
use Rattle.shape.proofs.Counts.{back-few, none_left, none_seen, one_back}
use Rattle.shape.proofs.count.count_path.Goals as goal

pub loop-node-init : goal.loop-node-init
loop-node-init c =
    let rest = ap (λ r. iter_rest r.iter) c.into_iter-node-iterator.ensures.into_iter_gives ∙ ap iter_rest c.rev-node-items.ensures.source
    ∙ c.iter.ensures.rest in
    let all = append-nil (iter_rest c.into_iter-node-iterator.result.iter) ∙ rest in
    ([], sym all, none_seen c.default-so_far.result c.default-so_far.ensures)

pub widen-so_far-requires : goal.widen-so_far-requires
widen-so_far-requires c =
    let seen = c.loop-node.invariant in
    let f = back-few _ _ _ seen.0 _ seen.1 c.in-Some.ensures.steps in
    let p = ap (λ (x : Path). x.pieces) seen.2 in
    let t = ap (λ (x : Path). x.trees) seen.2 in
    let l = ap length c.iter.ensures.rest in
    let b = c.iter.ensures.bound in
    (omega arith, omega arith)

pub loop-node-preserved : goal.loop-node-preserved
loop-node-preserved c =
    let seen = c.loop-node.invariant in (
      c.in-Some.node.now ∷ seen.0,
      one_back _ _ _ seen.0 _ seen.1 c.in-Some.ensures.steps,
      c.widen-so_far.ensures ∙ ap (widened (under c.in-Some.node.now)) seen.2,
    )

pub returns : goal.returns
returns c =
    let seen = c.loop-node.invariant in
    seen.2 ∙ ap path (none_left _ _ seen.0 seen.1 c.in-None.ensures.steps.0)
