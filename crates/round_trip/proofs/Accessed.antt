-- What a register write comes to, its answer and the state after it together.
use Rattle.std.proofs.Common.{◌≡◌, ℕ, Bool, true, false, ◌&&◌, eqb, Some, None, Err, Option, refl, arith}
use Rattle.std.proofs.lemmas.Bool.Decides.{nat_tests}
use Rattle.task_file.specs.declared.registers.Register.{Register}
use Rattle.task_file.specs.declared.registers.Register.TheVariants as register
use Rattle.task_file.specs.declared.command.Command.{Command}
use Rattle.task_file.specs.declared.state.Load.{Load}
use Rattle.task_file.specs.declared.state.Phase.{Phase}
use Rattle.task_file.specs.declared.state.Phase.TheVariants.{Rest, Busy, Taking}
use Rattle.task_file.specs.declared.state.State.{State}
use Rattle.task_file.specs.declared.view.DriveView.{DriveView}
use Rattle.task_file.specs.Registers.{register_numbered, stored}
use Rattle.task_file.specs.Commands.{command_of}
use Rattle.task_file.specs.State.{is_busy}
use Rattle.task_file.specs.Beginning.{begun}
use Rattle.task_file.specs.Moving.{put_at, put}
use Rattle.controller.specs.declared.access.Refusal.TheVariants as refusal
use Rattle.controller.specs.Access.{is_data, is_status, write_refusal, answered, unless_refused, at_register, begun_by, write_effect, write_answer_of, state_after_write}
use Rattle.controller.specs.Runs.{write_as}
use Rattle.round_trip.specs.Events.{is_done}

-- a write leaves the state, takes a byte, begins a command, or keeps a byte at rest
pub data Accessed (s : State) (v : Option DriveView) (n byte : ℕ) (done : Bool) (t : State) : Type 0 where
  left_alone : (eqb n 0 && done) ≡ false → (eqb n 7 && done) ≡ false → t ≡ s → Accessed s v n byte done t
  took : (l : Load) (p : ℕ) → s.phase ≡ Taking l p → (eqb n 0 && done) ≡ true → (eqb n 7 && done) ≡ false → t ≡ put_at s l p byte → Accessed s v n byte done t
  began : (c : Command) → is_busy s.phase ≡ false → command_of byte ≡ Some c → (eqb n 0 && done) ≡ false → (eqb n 7 && done) ≡ true → t ≡ begun s c v → Accessed s v n byte done t
  kept : (r : Register) → s.phase ≡ Rest → (eqb n 0 && done) ≡ false → (eqb n 7 && done) ≡ false → t ≡ record s { registers = stored s.registers r byte } → Accessed s v n byte done t

module _ (s : State) (v : Option DriveView) (byte : ℕ) where
  abbrev done_by : Phase → Register → Option Command → Bool
  done_by p r o = is_done (write_as (answered (write_refusal p r o) tt))

  -- registers 0, 2 to 6 (which all answer as the count does), and 7
  data_access : (n : ℕ) → eqb n 0 ≡ true → eqb n 7 ≡ false → (p : Phase) → s.phase ≡ p
      → Accessed s v n byte (done_by p register.Data (command_of byte)) (unless_refused (write_refusal p register.Data (command_of byte)) s (put s byte))
  data_access n is_0 no_7 (Taking l at) e = took l at e (rw is_0 refl) (rw no_7 refl) (rw e refl)
  data_access n is_0 no_7 p e = left_alone (rw is_0 refl) (rw no_7 refl) refl

  kept_access : (n : ℕ) (r : Register) → eqb n 0 ≡ false → eqb n 7 ≡ false → (p : Phase) → s.phase ≡ p
      → Accessed s v n byte (done_by p register.Count (command_of byte)) (unless_refused (write_refusal p register.Count (command_of byte)) s (record s { registers = stored s.registers r byte }))
  kept_access n r no_0 no_7 Rest e = kept r e (rw no_0 refl) (rw no_7 refl) refl
  kept_access n r no_0 no_7 p e = left_alone (rw no_0 refl) (rw no_7 refl) refl

  command_access : (n : ℕ) → eqb n 0 ≡ false → eqb n 7 ≡ true → (p : Phase) (o : Option Command) → s.phase ≡ p → command_of byte ≡ o
      → Accessed s v n byte (done_by p register.Status o) (unless_refused (write_refusal p register.Status o) s (begun_by o s v))
  command_access n no_0 is_7 (Busy j) o e given = left_alone (rw no_0 refl) (rw is_7 refl) refl
  command_access n no_0 is_7 p None e given = left_alone (rw no_0 refl) (rw is_7 refl) refl
  command_access n no_0 is_7 p (Some c) e given = began c (rw e refl) given (rw no_0 refl) (rw is_7 refl) refl

  -- register 0 alone is data, and register 7 alone is the status
  numbers : (n : ℕ) (r : Register) → register_numbered n ≡ Some r → (eqb n 0 ≡ is_data r) × (eqb n 7 ≡ is_status r)
  numbers n r e = (grind (arith, nat_tests), grind (arith, nat_tests))

  none_numbered : (n : ℕ) → register_numbered n ≡ None → (eqb n 0 ≡ false) × (eqb n 7 ≡ false)
  none_numbered n e = (grind (arith, nat_tests), grind (arith, nat_tests))

  register_access : (n : ℕ) (o : Option Register) → register_numbered n ≡ o
      → Accessed s v n byte (is_done (write_as (at_register o (Err refusal.NoRegister) (λ r. answered (write_refusal s.phase r (command_of byte)) tt))))
      (at_register o s (λ r. unless_refused (write_refusal s.phase r (command_of byte)) s (write_effect s v r byte)))
  register_access n None e = let no = none_numbered n e in left_alone (rw no.0 refl) (rw no.1 refl) refl
  register_access n (Some register.Data) e = let is = numbers n _ e in data_access n is.0 is.1 s.phase refl
  register_access n (Some register.Error) e = let is = numbers n _ e in left_alone (rw is.0 refl) (rw is.1 refl) (grind arith)
  register_access n (Some register.Status) e = let is = numbers n _ e in command_access n is.0 is.1 s.phase (command_of byte) refl refl
  register_access n (Some r) e = let is = numbers n _ e in kept_access n r is.0 is.1 s.phase refl

  pub accessed : (n : ℕ) → Accessed s v n byte (is_done (write_as (write_answer_of s n byte))) (state_after_write s v n byte)
  unfolding write_answer_of state_after_write
  accessed n = register_access n (register_numbered n) refl
