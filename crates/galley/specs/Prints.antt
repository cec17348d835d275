-- Laying out and writing in one go.
--   Lets     a text was laid out but not written, and let go again
--   Prints   laid out and written; or not laid out; or laid out, refused by write with the buffer as it was, and let go
use Rattle.std.specs.Prelude.{◌≡◌, ℕ, ◌⊎◌, List, length, Ok, Err, Result}
use Rattle.faults.specs.declared.fault.Fault.{Fault}
use Rattle.grammar.specs.Model.{Model}
use Rattle.policy.specs.declared.question.Question.{Question}
use Rattle.policy.specs.declared.question.Answer.{Answer}
use Rattle.galley.specs.declared.galley.Galley.{Galley}
use Rattle.galley.specs.declared.slip.Slip.{Slip}
use Rattle.galley.specs.Lays.{no_lay, Lays}
use Rattle.galley.specs.Writes.{write_fault, Wrote, Unlaid}

-- s and y are what lay gave; z is y, no longer laid
pub record Lets (G : Model) (P : Question → Answer) (x : Galley) (old : List ℕ) (start : ℕ) (f : Fault) (z : Galley) (new : List ℕ) :
    Type 0 where
  pub slip : Slip
  pub laid : Galley
  pub still : Galley
  pub lays : Lays (no_lay x) G P x (Ok slip) laid
  pub declines : Wrote (write_fault slip laid (length old) start) slip laid old start (Err (record { fault = f; slip = slip })) still new
  pub lets : Unlaid still z

abbrev pub Prints : Model → (Question → Answer) → Galley → List ℕ → ℕ → Result ℕ Fault → Galley → List ℕ → Type 0
Prints G P x old start (Ok n) z new =
    (s : Slip) × (y : Galley) × Lays (no_lay x) G P x (Ok s) y × Wrote (write_fault s y (length old) start) s y old start (Ok n) z new
Prints G P x old start (Err f) z new = (Lays (no_lay x) G P x (Err f) z × (new ≡ old)) ⊎ Lets G P x old start f z new
