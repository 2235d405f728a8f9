-- Calls as C gives them, and their answers as C is told them.
use Rattle.std.specs.Prelude.{ℕ, cond, Bool, List, [], ◌∷◌, map, Some, Ok, Err, ◌==◌}
use Rattle.std.specs.Option.{unwrap_or}
use Rattle.task_file.specs.declared.failure.Fault.{Fault}
use Rattle.task_file.specs.Failures.{last_fault}
use Rattle.task_file.specs.State.{is_busy, requests}
use Rattle.controller.specs.Access.{refusal_number}
use Rattle.controller.specs.Model.{ControllerModel}
use Rattle.controller.specs.declared.call.Call.{Call}
use Rattle.controller.specs.declared.call.Call.TheVariants.{Read, Write, Turn, Reset}
use Rattle.controller.specs.Runs.{Answer, answer_to, called, runs}
use Rattle.c_board.specs.declared.answers.PlainCall.{PlainCall}
use Rattle.c_board.specs.declared.answers.PlainAnswer.{PlainAnswer}
use Rattle.c_board.specs.declared.rounds.PlainRounds.{PlainRounds}
use Rattle.c_board.specs.Rounds.{rounds_of}

-- a read, a write or a turn by its number, and by any other a master reset
abbrev pub call_of : PlainCall → Call
call_of c = cond (c.kind == 0) (Read c.number) (cond (c.kind == 1) (Write c.number c.byte) (cond (c.kind == 2) Turn Reset))

-- ---- what C is told
-- the refusal's number, or 0
abbrev pub refusal_in : Answer → ℕ
refusal_in (Ok _) = 0
refusal_in (Err why) = refusal_number why

-- the byte that was read, or 0
abbrev pub byte_in : Answer → ℕ
byte_in (Ok (Some byte)) = byte
byte_in _ = 0

-- what stands for the last fault where there is none
abbrev pub no_fault : Fault
no_fault = record { layer = 0; error = 0; cylinder = 0; head = 0; number = 0; attempts = 0 }

-- what C is told: the answer, DRQ, INTRQ and BUSY, and the last fault, with zeros where there is none
abbrev pub told : Answer → Bool → Bool → Bool → Fault → PlainAnswer
told a drq intrq busy f =
    record {
      refusal = refusal_in a;
      byte = byte_in a;
      drq = drq;
      intrq = intrq;
      busy = busy;
      layer = f.layer;
      error = f.error;
      head = f.head;
      number = f.number;
      attempts = f.attempts;
      cylinder = f.cylinder;
    }

-- an answer, and what the controller shows once it is given
abbrev pub shown : ControllerModel → Answer → PlainAnswer
shown b a = told a (requests b.state.phase) b.state.intrq (is_busy b.state.phase) (unwrap_or (last_fault b.state.failure) no_fault)

-- ---- many calls
-- what C is told of each
unfoldable pub all_shown : ControllerModel → List Call → List PlainAnswer
all_shown b [] = []
all_shown b (c ∷ cs) = shown (called b c) (answer_to b c) ∷ all_shown (called b c) cs

-- where calls, and rounds after them, lead
abbrev pub run_of : ControllerModel → List PlainCall → PlainRounds → ControllerModel
run_of b calls asked = runs (runs b (map call_of calls)) (rounds_of asked)
