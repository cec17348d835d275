-- What lay answers.
--   no_lay     why a galley is not laid out at all: it is laid already, or empty
--   LaidOut    the verdict of the layout on what a galley holds
--   Lays       that refusal or the layout's with the galley as it was; or the pieces stand in their places, and the slip
--              and the galley tell the length of their text
use Rattle.std.specs.Prelude.{◌≡◌, cond, List, length, is_some, Some, None, Ok, Err, Option, Result, ◌==◌}
use Rattle.faults.specs.declared.fault.Fault.{Fault}
use Rattle.faults.specs.declared.fault.Fault.TheVariants.{AlreadyLaid, NoNode}
use Rattle.grammar.specs.Model.{Model}
use Rattle.policy.specs.declared.question.Question.{Question}
use Rattle.policy.specs.declared.question.Answer.{Answer}
use Rattle.tree.specs.Walks.{rules_of}
use Rattle.layout.specs.declared.placement.Placement.{Placement}
use Rattle.layout.specs.declared.placement.Layout.{Layout}
use Rattle.layout.specs.Layouts.{Laid, listed}
use Rattle.layout.specs.Standing.{standing}
use Rattle.galley.specs.declared.galley.Galley.{Galley}
use Rattle.galley.specs.declared.slip.Slip.{Slip}
use Rattle.galley.specs.Stores.{front, room}
use Rattle.galley.specs.Views.{Unchanged}
use Rattle.galley.specs.Writes.{text_of}

abbrev pub no_lay : Galley → Option Fault
no_lay x = cond (is_some x.laid) (Some AlreadyLaid) (cond (x.held.nodes.used == 0) (Some NoNode) None)

abbrev pub LaidOut : Model → (Question → Answer) → Galley → Result Layout Fault → Type 0
LaidOut G P x r = Laid G P (front x.held.bytes) (front x.held.pieces) (rules_of (front x.held.nodes)) r

-- y is x with its pieces in their places, laid
pub record Stands (places : List Placement) (x : Galley) (s : Slip) (y : Galley) : Type 0 where
  pub number : y.number ≡ x.number
  pub bytes : y.held.bytes ≡ x.held.bytes
  pub pieces : front y.held.pieces ≡ standing (front x.held.pieces) places
  pub piece_room : room y.held.pieces ≡ room x.held.pieces
  pub nodes : y.held.nodes ≡ x.held.nodes
  pub laid : y.laid ≡ Some (length (text_of y))
  pub slip_number : s.number ≡ x.number
  pub slip_length : s.length ≡ length (text_of y)

abbrev pub Lays : Option Fault → Model → (Question → Answer) → Galley → Result Slip Fault → Galley → Type 0
Lays (Some f) G P x r y = (r ≡ Err f) × Unchanged x y
Lays None G P x (Ok s) y = (l : Layout) × LaidOut G P x (Ok l) × Stands (listed l) x s y
Lays None G P x (Err f) y = LaidOut G P x (Err f) × Unchanged x y

-- the call
abbrev pub LaysBy : Model → (Question → Answer) → Galley → Result Slip Fault → Galley → Type 0
LaysBy G P x r y = Lays (no_lay x) G P x r y
