-- What is under way in a controller, and that it can be done: the invariant of all histories.
use Rattle.std.specs.Prelude.{◌≡◌, ◌≢◌, ℕ, ◌<◌, ◌≤◌, false, List, replicate, Some, None, Err, Option}
use Rattle.drive.specs.declared.answers.ReadError.TheVariants as read_error
use Rattle.drive.specs.declared.answers.WriteError.TheVariants as write_error
use Rattle.drive.specs.Model.{DriveModel}
use Rattle.drive.specs.Calls.{done, read_answer, write_answer, format_answer}
use Rattle.task_file.specs.declared.sdh.Selection.{Selection}
use Rattle.task_file.specs.declared.registers.Registers.{Registers}
use Rattle.task_file.specs.declared.command.Command.{Command}
use Rattle.task_file.specs.declared.command.Command.TheVariants as command
use Rattle.task_file.specs.declared.state.Job.{Job}
use Rattle.task_file.specs.declared.state.Job.TheVariants.{Test, Restore, Seek, Read, Write, Format}
use Rattle.task_file.specs.declared.state.Load.TheVariants.{Sector, Track}
use Rattle.task_file.specs.declared.state.Phase.{Phase}
use Rattle.task_file.specs.declared.state.Phase.TheVariants.{Busy, Offering, Taking}
use Rattle.task_file.specs.declared.state.State.{State}
use Rattle.task_file.specs.declared.view.DriveView.{DriveView}
use Rattle.task_file.specs.Sdh.{size_at, selected}
use Rattle.task_file.specs.Aborting.{aborts}
use Rattle.task_file.specs.Moving.{moved_length, load_is_long}
use Rattle.controller.specs.declared.call.Call.{Call}
use Rattle.controller.specs.declared.call.Call.TheVariants.{Turn}
use Rattle.controller.specs.Turns.{ids_asked}
use Rattle.controller.specs.Model.{ControllerModel, seen}
use Rattle.controller.specs.Runs.{runs, IsNew}

-- so many turns, as calls
abbrev pub turn_calls : ℕ → List Call
turn_calls k = replicate k Turn

-- where so many turns lead
abbrev pub turns : ℕ → ControllerModel → ControllerModel
turns k b = runs b (turn_calls k)

-- the command that a phase belongs to; at rest and in Test there is none that could be aborted
abbrev pub under_way : Phase → Option Command
under_way (Busy (Restore steps)) = Some command.Restore
under_way (Busy Seek) = Some command.Seek
under_way (Busy (Read j)) = Some (command.Read j.mode)
under_way (Busy (Write j)) = Some (command.Write j.mode)
under_way (Busy Format) = Some command.Format
under_way (Offering m at) = Some (command.Read m)
under_way (Taking (Sector m) at) = Some (command.Write m)
under_way (Taking Track at) = Some command.Format
under_way p = None

-- the command under way would not be aborted if it were given now
abbrev pub Able : Option Command → Registers → Option DriveView → Type 0
Able None r v = Unit {0}
Able (Some c) r v = aborts c r v ≡ false

-- no tenth attempt, no step past 1,024, no byte past the sector
abbrev pub Counted : Phase → Registers → Type 0
Counted (Busy (Restore steps)) r = steps ≤ 1024
Counted (Busy (Read j)) r = j.attempts ≤ 8
Counted (Busy (Write j)) r = j.attempts ≤ 8
Counted (Offering m at) r = at < moved_length (size_at r.sdh) m.long
Counted (Taking l at) r = at < moved_length (size_at r.sdh) (load_is_long l)
Counted p r = Unit {0}

-- The invariant: what is under way can be done, and its counters are in range.
pub record InOrder (b : ControllerModel) : Type 0 where
  pub able : Able (under_way b.state.phase) b.state.registers (seen b)
  pub counted : Counted b.state.phase b.state.registers

-- ---- what drives answer
-- What a job asks of the selected drive is not turned away: no attempt is answered that the drive is not ready, no write
-- attempt that it is protected, and a format is done.
abbrev pub DoneAsAsked : Job → State → Selection → DriveModel → Type 0
DoneAsAsked (Read j) s at d = read_answer d at.head s.registers.number (size_at s.registers.sdh) ≢ Err read_error.NotReady
DoneAsAsked (Write j) s at d =
    (write_answer d at.head s.registers.number (size_at s.registers.sdh) ≢ Err write_error.NotReady)
    × (write_answer d at.head s.registers.number (size_at s.registers.sdh) ≢ Err write_error.Protected)
DoneAsAsked Format s at d = format_answer d at.head (ids_asked s) (size_at s.registers.sdh) ≡ done
DoneAsAsked j s at d = Unit {0}

-- the same of what a phase does; where no drive is selected, only Test is under way
abbrev pub NothingTurnedAway : Phase → Option Selection → ControllerModel → Type 0
NothingTurnedAway (Busy j) (Some at) b = DoneAsAsked j b.state at (b.drives at.bay)
NothingTurnedAway (Busy j) None b = j ≡ Test
NothingTurnedAway p sel b = Unit {0}

-- ---- what is promised of every history
-- it leads to a controller that is in order
unfoldable pub AlwaysInOrder : Type 0
AlwaysInOrder = (b : ControllerModel) → IsNew b → (history : List Call) → InOrder (runs b history)

-- and no turn that is made there is turned away by its drive
unfoldable pub NeverTurnedAway : Type 0
NeverTurnedAway =
    (b : ControllerModel) → IsNew b → (history : List Call)
    → let e = runs b history in NothingTurnedAway e.state.phase (selected e.state.registers.sdh) e
