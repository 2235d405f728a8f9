-- The state of the controller: how it begins, is cleared and ends, and what shows of its phase.
use Rattle.std.specs.Prelude.{Bool, true, false, Some, None}
use Rattle.drive.specs.Calls.{blank_buffer}
use Rattle.task_file.specs.declared.failure.Failure.{Failure}
use Rattle.task_file.specs.declared.command.ReadMode.{ReadMode}
use Rattle.task_file.specs.declared.state.ReadJob.{ReadJob}
use Rattle.task_file.specs.declared.state.Job.TheVariants as job
use Rattle.task_file.specs.declared.state.Phase.{Phase}
use Rattle.task_file.specs.declared.state.Phase.TheVariants.{Rest, Busy, Offering, Taking}
use Rattle.task_file.specs.declared.state.State.{State}
use Rattle.task_file.specs.Registers.{cleared_registers}

-- a read before its first attempt at a sector
abbrev pub first_read : ReadMode → ReadJob
first_read m = record { mode = m; attempts = 0; previous = None }

-- ---- beginnings and ends
-- the state of a controller that is made now: it tests itself
abbrev pub fresh : State
fresh =
    record {
      registers = cleared_registers;
      failure = None;
      corrected = false;
      protection_note = false;
      intrq = false;
      phase = Busy job.Test;
      buffer = blank_buffer;
    }

-- all that an accepted command clears is cleared, and what was moving is dropped; registers and buffer stay
abbrev pub cleared : State → State
cleared s = record s { failure = None; corrected = false; protection_note = false; intrq = false; phase = Rest }

-- after a master reset: registers and all that an accepted command clears are cleared, and Test begins
abbrev pub reset : State → State
reset s = record (cleared s) { registers = cleared_registers; phase = Busy job.Test }

-- A command ends: BUSY off and INTRQ on.
abbrev pub ended : State → State
ended s = record s { intrq = true; phase = Rest }

-- it ends with a failure
abbrev pub failed : State → Failure → State
failed s f = ended (record s { failure = Some f })

-- ---- what shows of a phase
-- BUSY
abbrev pub is_busy : Phase → Bool
is_busy (Busy j) = true
is_busy p = false

-- DRQ, the data request: bytes move
abbrev pub requests : Phase → Bool
requests (Offering m at) = true
requests (Taking l at) = true
requests p = false
