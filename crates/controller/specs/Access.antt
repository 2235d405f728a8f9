-- The access rules, and what register reads and writes answer and leave.
use Rattle.std.specs.Prelude.{ℕ, Bool, true, false, not, ◌||◌, is_some, Some, None, Ok, Err, Option, Result, ◌==◌}
use Rattle.drive.specs.Asking.{unless}
use Rattle.task_file.specs.declared.registers.Register.{Register}
use Rattle.task_file.specs.declared.registers.Register.TheVariants as register
use Rattle.task_file.specs.declared.command.Command.{Command}
use Rattle.task_file.specs.declared.state.Phase.{Phase}
use Rattle.task_file.specs.declared.state.Phase.TheVariants.{Offering, Taking}
use Rattle.task_file.specs.declared.state.State.{State}
use Rattle.task_file.specs.declared.view.DriveView.{DriveView}
use Rattle.task_file.specs.Registers.{register_number, register_numbered, stored}
use Rattle.task_file.specs.Commands.{command_of}
use Rattle.task_file.specs.Failures.{error_byte}
use Rattle.task_file.specs.State.{is_busy, requests}
use Rattle.task_file.specs.Beginning.{begun}
use Rattle.task_file.specs.Status.{status_of}
use Rattle.task_file.specs.Moving.{offered, drawn, put}
use Rattle.controller.specs.declared.access.Refusal.{Refusal}
use Rattle.controller.specs.declared.access.Refusal.TheVariants as refusal

-- the numbers of the refusals
abbrev pub refusal_number : Refusal → ℕ
refusal_number refusal.NoRegister = 1
refusal_number refusal.Busy = 2
refusal_number refusal.NoDataRequest = 3
refusal_number refusal.DataRequest = 4
refusal_number refusal.NoCommand = 5

-- ---- which register, and which way bytes move
abbrev pub is_data : Register → Bool
is_data r = register_number r == 0

-- register 7, of the status and the commands
abbrev pub is_status : Register → Bool
is_status r = register_number r == 7

-- DRQ is on, towards the host
abbrev pub offers : Phase → Bool
offers (Offering m at) = true
offers p = false

-- DRQ is on, from the host
abbrev pub takes : Phase → Bool
takes (Taking l at) = true
takes p = false

-- ---- the rules, asked one after another; before them the register has to exist
-- a read: BUSY is off or it is a status read; of data, DRQ is on towards the host
abbrev pub read_refusal : Phase → Register → Option Refusal
read_refusal p r =
    unless (not (is_busy p) || is_status r) (Some refusal.Busy)
    (unless (not (is_data r) || offers p) (Some refusal.NoDataRequest) None)

-- the last of a write: of a command, the byte is accepted
abbrev pub command_refusal : Register → Option Command → Option Refusal
command_refusal r command = unless (not (is_status r) || is_some command) (Some refusal.NoCommand) None

-- a write: BUSY is off; of data, DRQ is on from the host; to registers 1 to 6, DRQ is off; and the last
abbrev pub write_refusal : Phase → Register → Option Command → Option Refusal
write_refusal p r command =
    unless (not (is_busy p)) (Some refusal.Busy)
    (unless (not (is_data r) || takes p) (Some refusal.NoDataRequest)
    (unless (is_data r || (is_status r || not (requests p))) (Some refusal.DataRequest)
    (command_refusal r command)))

-- what is answered where a rule stands against an access, and else
abbrev pub answered : {A : Type 0} → Option Refusal → A → Result A Refusal
answered (Some why) x = Err why
answered None x = Ok x

-- what an access leaves: a refused one changes nothing
abbrev pub unless_refused : Option Refusal → State → State → State
unless_refused (Some why) s t = s
unless_refused None s t = t

-- what comes of an access to a register, or where there is none
abbrev pub at_register : {A : Type 0} → Option Register → A → (Register → A) → A
at_register None none some = none
at_register (Some r) none some = some r

-- ---- reads
-- the byte that a read gives
abbrev pub read_byte : State → Option DriveView → Register → ℕ
read_byte s v register.Data = offered s
read_byte s v register.Error = error_byte s.failure
read_byte s v register.Count = s.registers.count
read_byte s v register.Number = s.registers.number
read_byte s v register.CylinderLow = s.registers.cylinder_low
read_byte s v register.CylinderHigh = s.registers.cylinder_high
read_byte s v register.Sdh = s.registers.sdh
read_byte s v register.Status = status_of s v

-- what a read leaves: data go out one by one, and reading the status turns INTRQ off
abbrev pub read_effect : State → Register → State
read_effect s register.Data = drawn s
read_effect s register.Status = record s { intrq = false }
read_effect s r = s

-- what a read of register n answers: the first rule that stands against it, or the byte
unfoldable pub read_answer_of : State → Option DriveView → ℕ → Result ℕ Refusal
read_answer_of s v n =
    at_register (register_numbered n) (Err refusal.NoRegister) (λ r. answered (read_refusal s.phase r) (read_byte s v r))

-- what it leaves
unfoldable pub state_after_read : State → ℕ → State
state_after_read s n = at_register (register_numbered n) s (λ r. unless_refused (read_refusal s.phase r) s (read_effect s r))

-- ---- writes
-- a command begins, if the byte gives one
abbrev pub begun_by : Option Command → State → Option DriveView → State
begun_by None s v = s
begun_by (Some c) s v = begun s c v

-- what a write leaves: data are taken one by one, a command begins, any other byte is kept or dropped
abbrev pub write_effect : State → Option DriveView → Register → ℕ → State
write_effect s v register.Data byte = put s byte
write_effect s v register.Status byte = begun_by (command_of byte) s v
write_effect s v r byte = record s { registers = stored s.registers r byte }

-- what a write to register n answers: the first rule that stands against it, or that it is done
unfoldable pub write_answer_of : State → ℕ → ℕ → Result (Unit {0}) Refusal
write_answer_of s n byte =
    at_register (register_numbered n) (Err refusal.NoRegister) (λ r. answered (write_refusal s.phase r (command_of byte)) tt)

-- what it leaves
unfoldable pub state_after_write : State → Option DriveView → ℕ → ℕ → State
state_after_write s v n byte =
    at_register (register_numbered n) s
    (λ r. unless_refused (write_refusal s.phase r (command_of byte)) s (write_effect s v r byte))
