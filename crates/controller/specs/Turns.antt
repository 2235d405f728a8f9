-- One turn of a busy controller on the selected drive: one step, or one attempt, or one format.
use Rattle.std.specs.Prelude.{ℕ, ◌+◌, min, cond, List, ◌==◌, nat_lt}
use Rattle.drive.specs.declared.answers.SectorId.{SectorId}
use Rattle.drive.specs.Model.{DriveModel}
use Rattle.drive.specs.Calls.{stepped_out, nearer, read_answer, handed_over, after_read, write_answer, after_write, format_answer, after_format}
use Rattle.task_file.specs.declared.sdh.Selection.{Selection}
use Rattle.task_file.specs.declared.failure.Failure.TheVariants.{Aborted, TrackZero}
use Rattle.task_file.specs.declared.state.ReadJob.{ReadJob}
use Rattle.task_file.specs.declared.state.WriteJob.{WriteJob}
use Rattle.task_file.specs.declared.state.Job.{Job}
use Rattle.task_file.specs.declared.state.Job.TheVariants.{Test, Restore, Seek, Read, Write, Format}
use Rattle.task_file.specs.declared.state.Phase.TheVariants.{Busy}
use Rattle.task_file.specs.declared.state.State.{State}
use Rattle.task_file.specs.Registers.{cylinder_of, sector_count}
use Rattle.task_file.specs.Sdh.{size_at, mode_at}
use Rattle.task_file.specs.State.{ended, failed}
use Rattle.task_file.specs.Attempts.{read_judged, write_judged, zero_check, format_judged}
use Rattle.task_file.specs.Pairs.{ids_of}

-- what a turn leaves of the state and of the selected drive
pub record Turned : Type 0 where
  pub state : State
  pub drive : DriveModel

-- a state and a drive that a turn leaves
abbrev pub turned : State → DriveModel → Turned
turned s d = record { state = s; drive = d }

-- Restore steps out, and ends on the turn that finds cylinder 0; 1,024 steps without it end with track 000
abbrev pub restore_turn : State → ℕ → DriveModel → Turned
restore_turn s steps d =
    cond (d.cylinder == 0) (turned (ended s) d)
    (cond (nat_lt steps 1024) (turned (record s { phase = Busy (Restore (steps + 1)) }) (stepped_out d)) (turned (failed s TrackZero) d))

-- a step toward the registers' cylinder, and on the turn that finds it the act
abbrev pub once_there : State → DriveModel → Turned → Turned
once_there s d act = cond (d.cylinder == cylinder_of s.registers) act (turned s (nearer d (cylinder_of s.registers)))

-- ---- the acts
-- a read attempt at the sector that the registers name: it is judged with what it delivered in the buffer
abbrev pub read_act : State → ReadJob → Selection → DriveModel → Turned
read_act s j at d =
    turned
    (read_judged (read_answer d at.head s.registers.number (size_at s.registers.sdh))
    (record s { buffer = handed_over d at.head s.registers.number (size_at s.registers.sdh) s.buffer }) j at)
    (after_read d at.head s.registers.number)

-- a write attempt at it, with what the buffer has
abbrev pub write_act : State → WriteJob → Selection → DriveModel → Turned
write_act s j at d =
    turned
    (write_judged (write_answer d at.head s.registers.number (size_at s.registers.sdh)) s j at)
    (after_write d at.head s.registers.number (size_at s.registers.sdh) s.buffer)

-- the sectors of a format: as many pairs of the buffer as the count says (more than 64 were aborted)
abbrev pub ids_asked : State → List SectorId
ids_asked s = ids_of s.buffer.bytes (min (sector_count s.registers) 64)

-- a format of the track, with zeros and their check bytes
abbrev pub format_act : State → Selection → DriveModel → Turned
format_act s at d =
    turned
    (format_judged (format_answer d at.head (ids_asked s) (size_at s.registers.sdh)) s)
    (after_format d at.head (ids_asked s) (size_at s.registers.sdh) (zero_check (mode_at s.registers.sdh) (size_at s.registers.sdh)))

-- ---- a turn
-- what a job does in one turn, on the selected drive; Test ends
unfoldable pub worked : Job → State → Selection → DriveModel → Turned
worked Test s at d = turned (ended s) d
worked (Restore steps) s at d = restore_turn s steps d
worked Seek s at d = once_there s d (turned (ended s) d)
worked (Read j) s at d = once_there s d (read_act s j at d)
worked (Write j) s at d = once_there s d (write_act s j at d)
worked Format s at d = once_there s d (format_act s at d)

-- where no drive is selected, Test ends; any other job is aborted, which no history meets
abbrev pub without_drive : Job → State → State
without_drive Test s = ended s
without_drive j s = failed s Aborted
