use Rattle.std.proofs.Common.{◌≤◌, length, ap, arith}
use Rattle.text.specs.Inside.{Inside}
use Rattle.galley.specs.Loads.{byte_count}
use Rattle.galley.proofs.Loading.{count_more, count-below, bytes_long, loaded_more}
use Rattle.galley.proofs.load.load_bytes.Goals as goal

pub loop-token-preserved : goal.loop-token-preserved
loop-token-preserved c =
    let text = c.args.source.now.text.now in
    let ts = c.as_slice-token-items.result.now in
    let i = c.loop-token.token-index in
    let h = c.loop-token-test.true in
    let inside : Inside text ts = rw c.as_slice-token-items.ensures c.args.source.now.inside in
    let all = ap byte_count c.as_slice-token-items.ensures in
    let m = count_more ts i h in
    let below = count-below ts i h in
    let fits : c.loop-token.end ≤ length c.loop-token.memory = omega arith in
    let own = c.bytes_at-bytes.ensures in
    let long = bytes_long ts i h text c.bytes_at-bytes.result.now inside own in
    record {
      count = omega arith;
      loaded = loaded_more ts i h text c.bytes_at-bytes.result.now inside own c.loop-token.memory
          c.copy_from_slice.new.self c.loop-token.end _ fits c.loop-token.invariant.loaded c.copy_from_slice.ensures.after;
    }
