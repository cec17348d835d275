use Rattle.std.proofs.Common.{◌≤◌, length, ap, arith}
use Rattle.std.proofs.lemmas.Result.{err_from_is_err_and}
use Rattle.text.specs.Tokens.{listed}
use Rattle.galley.specs.Loads.{byte_count}
use Rattle.galley.specs.Stores.{room}
use Rattle.galley.proofs.Taking.{well_held, not_taken, same_held}
use Rattle.galley.proofs.held.Held.take_over.Goals as goal

pub invariant_of-self-2 : goal.invariant_of-self-2
invariant_of-self-2 g c =
    let ts = c.args.source.now.tokens.now in
    let w =
    well_held _ _ c.args.source.now.text.now (listed ts) c.hold_bytes.new.self c.hold_pieces.new.self c.hold_reading.new.self _ _
    c.args.source.now.inside ts.few
    c.hold_bytes.ensures.used c.hold_pieces.ensures.used c.hold_pieces.ensures.front c.in_ok-hold_reading.ensures in
    record { few = w.0; short = w.1; whole = w.2; tree = w.3; over = w.4 }

pub returns-in_err-hold_reading : goal.returns-in_err-hold_reading
returns-in_err-hold_reading g c =
    let h = c.args.self.now in
    let ts = c.args.source.now.tokens.now in
    let bytes : byte_count (listed ts) ≤ room h.bytes = omega arith in
    let long = ap length c.as_slice.ensures in
    let pieces : length (listed ts) ≤ room h.pieces = omega arith in
    let p = err_from_is_err_and c.from_residual.result c.from_residual.ensures.1 in
    rw (p.1, p.2)
    (not_taken _ _ (length c.args.cells.now) c.args.source.now.text.now (listed ts) h _ c.hold_reading.new.self
    c.in_err-hold_reading.field-0.0 bytes pieces c.in_err-hold_reading.ensures
    (same_held h c.hold_reading.new.self _ _ _ _ _))
