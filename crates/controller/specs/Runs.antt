-- Calls and their answers, and histories: lists of calls on a controller from its making on.
use Rattle.std.specs.Prelude.{◌≡◌, ℕ, List, [], ◌∷◌, ◌++◌, Some, None, Ok, Err, Option, Result}
use Rattle.drive.specs.Bounds.{ADrive}
use Rattle.task_file.specs.declared.bay.Bay.{Bay}
use Rattle.task_file.specs.State.{fresh}
use Rattle.controller.specs.declared.access.Refusal.{Refusal}
use Rattle.controller.specs.Model.{ControllerModel, read_answered, after_register_read, write_answered, after_register_write, after_turn, after_reset}
use Rattle.controller.specs.declared.call.Call.{Call}
use Rattle.controller.specs.declared.call.Call.TheVariants.{Read, Write, Turn, Reset}

-- ---- one call
-- an answer: the byte that was read, that the call is done, or why it was refused
abbrev pub Answer : Type 0
Answer = Result (Option ℕ) Refusal

-- a read answers a byte
abbrev pub byte_read : ℕ → Answer
byte_read byte = Ok (Some byte)

-- a write, a turn or a reset is done
abbrev pub done : Answer
done = Ok None

-- the answer of a register read
abbrev pub read_as : Result ℕ Refusal → Answer
read_as (Ok byte) = byte_read byte
read_as (Err why) = Err why

-- the answer of a register write
abbrev pub write_as : Result (Unit {0}) Refusal → Answer
write_as (Ok none) = done
write_as (Err why) = Err why

-- what a call answers
abbrev pub answer_to : ControllerModel → Call → Answer
answer_to b (Read number) = read_as (read_answered b number)
answer_to b (Write number byte) = write_as (write_answered b number byte)
answer_to b Turn = done
answer_to b Reset = done

-- what it leaves
abbrev pub called : ControllerModel → Call → ControllerModel
called b (Read number) = after_register_read b number
called b (Write number byte) = after_register_write b number byte
called b Turn = after_turn b
called b Reset = after_reset b

-- ---- many calls
-- where calls lead, made one after another
unfoldable pub runs : ControllerModel → List Call → ControllerModel
runs b [] = b
runs b (c ∷ cs) = runs (called b c) cs

-- every answer
unfoldable pub answers : ControllerModel → List Call → List Answer
answers b [] = []
answers b (c ∷ cs) = answer_to b c ∷ answers (called b c) cs

-- ---- histories
-- A new controller: its state is the fresh one, and each bay has a drive.
pub record IsNew (b : ControllerModel) : Type 0 where
  pub is_fresh : b.state ≡ fresh
  pub a_drive : (bay : Bay) → ADrive (b.drives bay)

-- A controller that a history leads to: a list of calls, from a new controller on.
pub record Reached (b : ControllerModel) : Type 0 where
  pub new : ControllerModel
  pub is_new : IsNew new
  pub history : List Call
  pub leads : runs new history ≡ b

-- Every history that leads from a new controller to `before`, continued by these calls, leads to `after`.
abbrev pub Continues : ControllerModel → List Call → ControllerModel → Type 0
Continues before calls after =
    (new : ControllerModel) → IsNew new → (history : List Call) → runs new history ≡ before → runs new (history ++ calls) ≡ after

-- What calls that were made tell: every answer, where they lead, and that they continue each history that led to where they begin.
pub record Ran (before : ControllerModel) (calls : List Call) (given : List Answer) (after : ControllerModel) : Type 0 where
  pub answers_are : given ≡ answers before calls
  pub leads : after ≡ runs before calls
  pub continues : Continues before calls after
