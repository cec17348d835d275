use Rattle.std.proofs.Common.{arith}
use Rattle.std.proofs.lemmas.List.{take_more_set, map_more}
use Rattle.galley.specs.Loads.{record_of}
use Rattle.galley.proofs.Left.{left_more}
use Rattle.galley.proofs.load.load_pieces.Goals as goal

pub loop-record-preserved : goal.loop-record-preserved
loop-record-preserved c =
    let i = c.loop-record.record-index in
    let at = left_more c.args.tokens.now _ _ i _ c.loop-record.invariant.2 c.in-Some.ensures.steps in
    let new = take_more_set c.loop-record.memory i c.record_of.result (omega (arith, c.loop-record-test.true)) in
    let all = map_more record_of c.args.tokens.now i c.in-Some.token.now at.0 in
    let before = c.loop-record.invariant.0 in
    let same = at.1 in
    let made = c.record_of.ensures in
    (cc, omega (arith, at.0), at.2)
