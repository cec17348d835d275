-- What write and release answer.
--   text_of       the text that a laid galley keeps
--   spend_fault   why a slip is not taken: the galley is not laid, or has another number
--   write_fault   the same, or the start is past the buffer's end, or the text does not fit behind it
--   Spends        whether a slip is taken
--   Puts          whether the text is put into a buffer
--   Releases, Writes   the two calls, by their first fault if there is one
--   Released      the slip is handed back and nothing changed, or the galley is no longer laid
--   Wrote         likewise, and the text stands in the buffer from the start on
use Rattle.std.specs.Prelude.{◌≡◌, ℕ, ◌+◌, ◌<◌, ◌≤◌, cond, List, ◌++◌, length, take, drop, is_some, Some, None, Ok, Err, Option, Result}
use Rattle.std.specs.Prelude.{◌==◌, nat_le}
use Rattle.faults.specs.declared.fault.Fault.{Fault}
use Rattle.faults.specs.declared.fault.Fault.TheVariants.{WrongSlip, NoRoom}
use Rattle.layout.specs.Text.{text}
use Rattle.galley.specs.declared.galley.Galley.{Galley}
use Rattle.galley.specs.declared.slip.Slip.{Slip}
use Rattle.galley.specs.declared.slip.Declined.{Declined}
use Rattle.galley.specs.Stores.{front}
use Rattle.galley.specs.Views.{Unchanged}

abbrev pub text_of : Galley → List ℕ
text_of x = text 0 (front x.held.pieces) (front x.held.bytes)

abbrev pub spend_fault : Slip → Galley → Option Fault
spend_fault s x = cond (is_some x.laid) (cond (s.number == x.number) None (Some WrongSlip)) (Some WrongSlip)

-- the slip, or the refusal that hands it back
abbrev pub Spends : Slip → Galley → Result Slip Declined → Type 0
Spends s x r =
    elim (spend_fault s x) [ Some f ↦ r ≡ Err (record { fault = f; slip = s }) | None ↦ r ≡ Ok s ]

-- room is the length of the buffer
abbrev pub write_fault : Slip → Galley → ℕ → ℕ → Option Fault
write_fault s x room start =
    elim (spend_fault s x) [ Some f ↦ Some f | None ↦ cond (nat_le (start + length (text_of x)) room) None (Some NoRoom) ]

-- the text from the start on in the buffer, and its length; or the buffer as it was, where the text does not fit behind the start
abbrev pub Puts : Galley → List ℕ → ℕ → Option ℕ → List ℕ → Type 0
Puts x old start (Some n) new =
    (n ≡ length (text_of x)) × (start + length (text_of x) ≤ length old)
    × (new ≡ take start old ++ (text_of x ++ drop (start + length (text_of x)) old))
Puts x old start None new = (length old < start + length (text_of x)) × (new ≡ old)

-- all that it holds is as it was, but it is no longer laid
pub record Unlaid (x y : Galley) : Type 0 where
  pub number : y.number ≡ x.number
  pub held : y.held ≡ x.held
  pub laid : y.laid ≡ None

abbrev pub Released : Option Fault → Slip → Galley → Result Unit Declined → Galley → Type 0
Released (Some f) s x r y = (r ≡ Err (record { fault = f; slip = s })) × Unchanged x y
Released None s x r y = (r ≡ Ok tt) × Unlaid x y

abbrev pub Wrote : Option Fault → Slip → Galley → List ℕ → ℕ → Result ℕ Declined → Galley → List ℕ → Type 0
Wrote (Some f) s x old start r y new = (r ≡ Err (record { fault = f; slip = s })) × Unchanged x y × (new ≡ old)
Wrote None s x old start r y new =
    (r ≡ Ok (length (text_of x))) × Unlaid x y
    × (new ≡ take start old ++ (text_of x ++ drop (start + length (text_of x)) old))

-- the calls
abbrev pub Releases : Slip → Galley → Result Unit Declined → Galley → Type 0
Releases s x r y = Released (spend_fault s x) s x r y

abbrev pub Writes : Slip → Galley → List ℕ → ℕ → Result ℕ Declined → Galley → List ℕ → Type 0
Writes s x old start r y new = Wrote (write_fault s x (length old) start) s x old start r y new
