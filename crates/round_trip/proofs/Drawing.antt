-- While DRQ is on towards the host, data reads draw the buffer's bytes in order, and nothing else changes.
use Rattle.std.proofs.Common.{◌≡◌, ℕ, ◌+◌, ◌<◌, Bool, true, false, ◌&&◌, eqb, List, [], ◌∷◌, take, Option, refl, ◌∙◌, arith}
use Rattle.std.specs.Prelude.{slice_index}
use Rattle.std.proofs.Math.Nat.{add-zero, add_assoc}
use Rattle.std.proofs.lemmas.List.{get_or-take}
use Rattle.std.proofs.lemmas.Bool.Decides.{nat_tests}
use Rattle.sector.specs.Sizes.{bytes_of}
use Rattle.task_file.specs.declared.command.ReadMode.{ReadMode}
use Rattle.task_file.specs.declared.state.Phase.TheVariants.{Offering}
use Rattle.task_file.specs.declared.state.State.{State}
use Rattle.task_file.specs.declared.view.DriveView.{DriveView}
use Rattle.task_file.specs.Sdh.{size_at}
use Rattle.task_file.specs.Moving.{drawn_at}
use Rattle.controller.specs.Access.{read_answer_of, state_after_read}
use Rattle.controller.specs.Model.{ControllerModel, seen}
use Rattle.controller.specs.declared.call.Call.{Call}
use Rattle.controller.specs.declared.call.Call.TheVariants as call
use Rattle.controller.specs.Runs.{byte_read, answer_to, called, runs}
use Rattle.round_trip.specs.Events.{drq, accepts}
use Rattle.round_trip.specs.Laws.{DrqThroughout, draws, drawn_in}
use Rattle.round_trip.proofs.Accessed as access

-- a controller offers a read's bytes from a place on, with the buffer, registers and failure of another one
pub record Drawn (e : ControllerModel) (m : ReadMode) (at : ℕ) (b : ControllerModel) : Type 0 where
  pub phase : b.state.phase ≡ Offering m at
  pub buffer : b.state.buffer ≡ e.state.buffer
  pub registers : b.state.registers ≡ e.state.registers
  pub failure : b.state.failure ≡ e.state.failure

-- ---- one call
read_draws : (e : ControllerModel) (m : ReadMode) (at n : ℕ) → e.state.phase ≡ Offering m at → drq (called e (call.Read n)) ≡ true
    → Drawn e m (at + draws e (call.Read n)) (called e (call.Read n))
unfolding read_answer_of state_after_read drawn_at
read_draws e m at n offering on =
    record {
      phase = grind (arith, nat_tests);
      buffer = grind (arith, nat_tests);
      registers = grind (arith, nat_tests);
      failure = grind (arith, nat_tests);
    }

-- where the state stays, nothing is drawn, and it offers as before
same_draws : (e b : ControllerModel) (m : ReadMode) (at : ℕ) → e.state.phase ≡ Offering m at → b.state ≡ e.state → Drawn e m (at + 0) b
same_draws e b m at offering same = record { phase = rw (same, add-zero) offering; buffer = rw same; registers = rw same; failure = rw same }

-- while bytes are offered, a write that is no accepted command changes nothing
write_same : (s : State) (v : Option DriveView) (m : ReadMode) (at n byte : ℕ) → s.phase ≡ Offering m at → (done : Bool) (t : State) → (eqb n 7 && done) ≡ false → access.Accessed s v n byte done t → t ≡ s
write_same s v m at n byte offering done t no_command a = grind arith

call_draws : (e : ControllerModel) (m : ReadMode) (at : ℕ) (c : Call) → e.state.phase ≡ Offering m at → accepts e c ≡ false → drq (called e c) ≡ true
    → Drawn e m (at + draws e c) (called e c)
call_draws e m at (call.Read n) offering no_command on = read_draws e m at n offering on
call_draws e m at (call.Write n byte) offering no_command on =
    same_draws e (called e (call.Write n byte)) m at offering (write_same e.state (seen e) m at n byte offering _ _ no_command (access.accessed e.state (seen e) byte n))
call_draws e m at call.Turn offering no_command on = same_draws e (called e call.Turn) m at offering (rw offering refl)
call_draws e m at call.Reset offering no_command on = cc

-- ---- calls one after another
-- DRQ is on to begin with where it is on all along
goes_on : (b : ControllerModel) (cs : List Call) → DrqThroughout b cs → drq b ≡ true
goes_on b [] on = on
goes_on b (c ∷ cs) on = on.0

pub drawing : (cs : List Call) (e : ControllerModel) (m : ReadMode) (at : ℕ) → e.state.phase ≡ Offering m at → DrqThroughout e cs → Drawn e m (at + drawn_in e cs) (runs e cs)
unfolding runs
drawing [] e m at offering on = same_draws e e m at offering refl
drawing (c ∷ cs) e m at offering on =
    let first = call_draws e m at c offering on.1 (goes_on (called e c) cs on.2) in
    let rest = drawing cs (called e c) m (at + draws e c) first.phase on.2 in
    record {
      phase = rw (← add_assoc) rest.phase;
      buffer = rest.buffer ∙ first.buffer;
      registers = rest.registers ∙ first.registers;
      failure = rest.failure ∙ first.failure;
    }

-- ---- the byte that comes next
pub draws_next : (b : ControllerModel) (m : ReadMode) (at : ℕ) → b.state.phase ≡ Offering m at → m.long ≡ false → at < bytes_of (size_at b.state.registers.sdh)
    → answer_to b (call.Read 0) ≡ byte_read (slice_index (take (bytes_of (size_at b.state.registers.sdh)) b.state.buffer.bytes) at)
unfolding read_answer_of
draws_next b m at offering plain few = grind (arith, nat_tests, get_or-take)

-- DRQ stays on where more bytes come
pub draws_on : (b : ControllerModel) (m : ReadMode) (at : ℕ) → b.state.phase ≡ Offering m at → m.long ≡ false → at + 1 < bytes_of (size_at b.state.registers.sdh)
    → drq (called b (call.Read 0)) ≡ true
unfolding state_after_read drawn_at
draws_on b m at offering plain more = grind (arith, nat_tests)
