use Rattle.std.proofs.Common.{◌+◌, Some, take, sym, ap, ◌∙◌, subst, arith}
use Rattle.std.proofs.lemmas.List.{length-take-le}
use Rattle.std.proofs.lemmas.Option.{slice_get-get_or}
use Rattle.shape.specs.declared.count.Path.{Path}
use Rattle.shape.specs.Children.{closes, pieces_in}
use Rattle.shape.specs.Counted.{path, span}
use Rattle.shape.specs.Told.{Told}
use Rattle.shape.proofs.Counts.{pieces_sum, pieces-drop, pieces-take}
use Rattle.shape.proofs.Telling.{closes_from, span-within, told, told-once}
use Rattle.shape.proofs.preorder.Preorder.node.Goals as goal

pub returns-in_err-node-clause-once : goal.returns-in_err-node-clause-once
returns-in_err-node-clause-once c = told-once

pub count_nodes-node_count-requires : goal.count_nodes-node_count-requires
count_nodes-node_count-requires c =
    let ns = c.args.self.now.nodes.now in
    let x = closes_from ns c.args.number c.args.self.now.one c.in_ok-node.ensures.lookup.3.0 in
    (x.0, ap (closes (x.0 + 1)) c.split_at.ensures.back ∙ x.1)

pub count_path-requires : goal.count_path-requires
count_path-requires c =
    let e = ap pieces_in c.split_at.ensures.front in
    let t = pieces-take c.args.self.now.nodes.now c.args.number in
    let few = c.args.self.now.few in
    omega arith

pub slice_bounds-count_pieces-end : goal.slice_bounds-count_pieces-end
slice_bounds-count_pieces-end c =
    let ns = c.args.self.now.nodes.now in
    let from = c.split_at.result.1.now in
    let w = span-within ns c.args.number c.args.self.now.one c.in_ok-node.ensures.lookup.3.0 in
    let m = c.count_nodes-node_count.ensures ∙ ap (span 1) c.split_at.ensures.back in
    let b = c.split_at.ensures.back_len in
    sym (length-take-le c.count_nodes-node_count.result from (omega arith))

pub count_pieces-requires : goal.count_pieces-requires
count_pieces-requires c =
    let ns = c.args.self.now.nodes.now in
    let from = c.split_at.result.1.now in
    let s = pieces_sum (take c.count_nodes-node_count.result from) in
    let e = ap pieces_in c.split_at.ensures.back in
    let t = pieces-take from c.count_nodes-node_count.result in
    let d = pieces-drop ns c.args.number in
    let few = c.args.self.now.few in
    omega arith

pub returns-clause-told : goal.returns-clause-told
returns-clause-told c =
    let ns = c.args.self.now.nodes.now in
    let k = c.args.number in
    let n = c.in_ok-node.node.now in
    let here = c.in_ok-node.ensures.lookup.3.0 in
    let t = told ns k c.args.self.now.one here n (slice_get-get_or ns k n here ∙ ap Some (sym c.in_ok-node.ensures.lookup.1)) in
    let first = ap (λ (p : Path). p.pieces) (c.count_path.ensures ∙ ap path c.split_at.ensures.front) in
    let m = c.count_nodes-node_count.ensures ∙ ap (span 1) c.split_at.ensures.back in
    let q = c.count_pieces.ensures ∙ pieces_sum (take c.count_nodes-node_count.result c.split_at.result.1.now) in
    let back = c.split_at.ensures.back in
    subst (Told ns k) (cc) t

pub returns-clause-once : goal.returns-clause-once
returns-clause-once c = told-once
