-- What a fault tells.
--   Told   its number in the closed list, the layer that refuses, and what it points at
--   told   the same for each fault, case by case
--   shown  a place as line and column, 0 for what it lacks
use Rattle.std.specs.Prelude.{ℕ}
use Rattle.faults.specs.declared.fault.Layer.{Layer}
use Rattle.faults.specs.declared.fault.Layer.TheVariants.{RuleFile, Policy, Galley, Text, Chart, Layout, Output}
use Rattle.faults.specs.declared.fault.Position.{Position}
use Rattle.faults.specs.declared.fault.Place.{Place}
use Rattle.faults.specs.declared.fault.Place.TheVariants.{Nowhere, Line, At, Short, Item}
use Rattle.faults.specs.declared.fault.Fault.{Fault}
use Rattle.faults.specs.declared.fault.Fault.TheVariants.{FileBytes, FileNames, ValueCount, ValueForm, ItemGap, GrammarSize, UnitRule}
use Rattle.faults.specs.declared.fault.Fault.TheVariants.{StepWidth, AlreadyLaid, NoNode, GrammarMismatch, TextTooLong, NoPiece}
use Rattle.faults.specs.declared.fault.Fault.TheVariants.{PieceOutOfBounds, PieceCount, NoTerminal, ShortMemory, NoReading, TooDeep}
use Rattle.faults.specs.declared.fault.Fault.TheVariants.{WrongSlip, NoRoom}

pub record Told : Type 0 where
  pub number : ℕ
  pub layer : Layer
  pub place : Place

abbrev pub told : Fault → Told
told FileBytes = record { number = 1; layer = RuleFile; place = Nowhere }
told FileNames = record { number = 2; layer = RuleFile; place = Line 1 }
told (ValueCount line) = record { number = 3; layer = RuleFile; place = Line line }
told (ValueForm line) = record { number = 4; layer = RuleFile; place = Line line }
told (ItemGap line) = record { number = 5; layer = RuleFile; place = Line line }
told GrammarSize = record { number = 6; layer = RuleFile; place = Nowhere }
told (UnitRule line) = record { number = 7; layer = RuleFile; place = Line line }
told StepWidth = record { number = 8; layer = Policy; place = Nowhere }
told AlreadyLaid = record { number = 9; layer = Galley; place = Nowhere }
told NoNode = record { number = 10; layer = Galley; place = Nowhere }
told GrammarMismatch = record { number = 11; layer = Galley; place = Nowhere }
told TextTooLong = record { number = 12; layer = Text; place = Nowhere }
told (NoPiece at) = record { number = 13; layer = Text; place = At at }
told (PieceOutOfBounds at) = record { number = 14; layer = Text; place = At at }
told PieceCount = record { number = 15; layer = Text; place = Nowhere }
told (NoTerminal at) = record { number = 16; layer = Text; place = At at }
told (ShortMemory memory) = record { number = 17; layer = Galley; place = Short memory }
told (NoReading at) = record { number = 18; layer = Chart; place = At at }
told (TooDeep rule item) = record { number = 19; layer = Layout; place = Item rule item }
told WrongSlip = record { number = 20; layer = Galley; place = Nowhere }
told NoRoom = record { number = 21; layer = Output; place = Nowhere }

abbrev pub shown : Place → Position
shown Nowhere = record { line = 0; column = 0 }
shown (Line line) = record { line = line; column = 0 }
shown (At at) = at
shown (Short memory) = record { line = 0; column = 0 }
shown (Item rule item) = record { line = 0; column = 0 }
