-- The controller with what its drives mean, and what each access, turn and reset answers and leaves.
use Rattle.std.specs.Prelude.{ℕ, cond, List, [], map, Some, None, Option, Result, slice_index_or}
use Rattle.std.specs.Option.{option_map}
use Rattle.drive.specs.Model.{DriveModel}
use Rattle.drive.specs.Empty.{empty_model}
use Rattle.task_file.specs.declared.bay.Bay.{Bay}
use Rattle.task_file.specs.declared.sdh.Selection.{Selection}
use Rattle.task_file.specs.declared.state.Phase.{Phase}
use Rattle.task_file.specs.declared.state.Phase.TheVariants.{Busy}
use Rattle.task_file.specs.declared.state.State.{State}
use Rattle.task_file.specs.declared.view.DriveView.{DriveView}
use Rattle.task_file.specs.Bays.{bay_index, same_bay}
use Rattle.task_file.specs.Sdh.{selected}
use Rattle.task_file.specs.State.{fresh, reset, requests}
use Rattle.controller.specs.declared.access.Refusal.{Refusal}
use Rattle.controller.specs.declared.access.Lines.{Lines}
use Rattle.controller.specs.Access.{read_answer_of, state_after_read, write_answer_of, state_after_write}
use Rattle.controller.specs.Turns.{worked, without_drive}

-- the controller's state, and what the drive in each bay means
pub record ControllerModel : Type 0 where
  pub state : State
  pub drives : Bay → DriveModel

-- what the drive in each bay means, by what the make of the drives means
abbrev pub drives_of : {D : Type 0} → (D → DriveModel) → List D → Bay → DriveModel
drives_of meaning drives bay = slice_index_or (map meaning drives) (bay_index bay) (empty_model [])

-- the model of a state and drives
abbrev pub model : {D : Type 0} → (D → DriveModel) → State → List D → ControllerModel
model meaning s drives = record { state = s; drives = drives_of meaning drives }

-- with another state, and another drive in one bay
abbrev pub with_drive : ControllerModel → State → Bay → DriveModel → ControllerModel
with_drive b s bay d = record { state = s; drives = λ other. cond (same_bay other bay) d (b.drives other) }

-- a controller that is made over these drives
abbrev pub made : (Bay → DriveModel) → ControllerModel
made drives = record { state = fresh; drives = drives }

-- ---- questions
-- what is seen of a drive by what SDH selects
abbrev pub view_of : Selection → DriveModel → DriveView
view_of at d = record { at = at; ready = d.ready; protected = d.protected; geometry = d.geometry }

-- what is seen of the drive that a selection names
abbrev pub seen_at : ControllerModel → Selection → DriveView
seen_at b at = view_of at (b.drives at.bay)

-- what is seen of the drive that SDH selects, if it selects one
abbrev pub seen : ControllerModel → Option DriveView
seen b = option_map (seen_at b) (selected b.state.registers.sdh)

-- the two lines
abbrev pub lines_of : State → Lines
lines_of s = record { drq = requests s.phase; intrq = s.intrq }

-- ---- calls
-- what a register read answers
abbrev pub read_answered : ControllerModel → ℕ → Result ℕ Refusal
read_answered b n = read_answer_of b.state (seen b) n

-- what a register read leaves
abbrev pub after_register_read : ControllerModel → ℕ → ControllerModel
after_register_read b n = record b { state = state_after_read b.state n }

-- what a register write answers
abbrev pub write_answered : ControllerModel → ℕ → ℕ → Result (Unit {0}) Refusal
write_answered b n byte = write_answer_of b.state n byte

-- what a register write leaves
abbrev pub after_register_write : ControllerModel → ℕ → ℕ → ControllerModel
after_register_write b n byte = record b { state = state_after_write b.state (seen b) n byte }

-- a turn: at rest and while bytes move it does nothing
abbrev pub turned_in : Phase → Option Selection → ControllerModel → ControllerModel
turned_in (Busy j) (Some at) b = let t = worked j b.state at (b.drives at.bay) in with_drive b t.state at.bay t.drive
turned_in (Busy j) None b = record b { state = without_drive j b.state }
turned_in p sel b = b

-- a turn in the phase and on the drive of now
abbrev pub after_turn : ControllerModel → ControllerModel
after_turn b = turned_in b.state.phase (selected b.state.registers.sdh) b

-- a master reset
abbrev pub after_reset : ControllerModel → ControllerModel
after_reset b = record b { state = reset b.state }
