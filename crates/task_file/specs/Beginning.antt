-- The beginning of a command.
use Rattle.std.specs.Prelude.{cond, Option}
use Rattle.task_file.specs.declared.registers.Registers.{Registers}
use Rattle.task_file.specs.declared.command.Command.{Command}
use Rattle.task_file.specs.declared.command.Command.TheVariants.{Test, Restore, Seek, Read, Write, Format}
use Rattle.task_file.specs.declared.failure.Failure.TheVariants.{Aborted}
use Rattle.task_file.specs.declared.state.Job.TheVariants as job
use Rattle.task_file.specs.declared.state.Load.TheVariants.{Sector, Track}
use Rattle.task_file.specs.declared.state.Phase.{Phase}
use Rattle.task_file.specs.declared.state.Phase.TheVariants.{Busy, Taking}
use Rattle.task_file.specs.declared.state.State.{State}
use Rattle.task_file.specs.declared.view.DriveView.{DriveView}
use Rattle.task_file.specs.State.{first_read, cleared, failed}
use Rattle.task_file.specs.Aborting.{aborts, notes}

-- the phase that a command begins with: Write and Format first take their bytes
abbrev pub first_phase : Command → Phase
first_phase Test = Busy job.Test
first_phase Restore = Busy (job.Restore 0)
first_phase Seek = Busy job.Seek
first_phase (Read m) = Busy (job.Read (first_read m))
first_phase (Write m) = Taking (Sector m) 0
first_phase Format = Taking Track 0

-- the registers once a command is accepted: Restore clears both of the cylinder
abbrev pub registers_for : Command → Registers → Registers
registers_for Restore r = record r { cylinder_low = 0; cylinder_high = 0 }
registers_for c r = r

-- an accepted command begins, or is aborted; aborted on a protected floppy, a Write or Format sets the protection note
abbrev pub begun_from : State → Command → Option DriveView → State
begun_from s c v =
    cond (aborts c s.registers v) (failed (record s { protection_note = notes c v }) Aborted) (record s { phase = first_phase c })

-- an accepted command: failure, flags and line are cleared, and it is aborted or begins
unfoldable pub begun : State → Command → Option DriveView → State
begun s c v = begun_from (record (cleared s) { registers = registers_for c s.registers }) c v
