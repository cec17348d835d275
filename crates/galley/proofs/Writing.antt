-- What write hands back.
use Rattle.std.proofs.Common.{◌≡◌, ℕ, List, Some, None, Err, Option}
use Rattle.faults.specs.declared.fault.Fault.{Fault}
use Rattle.galley.specs.declared.galley.Galley.{Galley}
use Rattle.galley.specs.declared.slip.Slip.{Slip}
use Rattle.galley.specs.declared.slip.Declined.{Declined}
use Rattle.galley.specs.Writes.{Wrote}

-- a refusal hands back the same slip
pub declined_same : (o : Option Fault) (s : Slip) (x : Galley) (old : List ℕ) (start : ℕ) (d : Declined) (y : Galley) (new : List ℕ)
    → Wrote o s x old start (Err d) y new → d ≡ record { fault = d.fault; slip = s }
declined_same (Some f) s x old start d y new (is, same, kept) = cc
declined_same None s x old start d y new (is, un, put) = absurd (cc)
