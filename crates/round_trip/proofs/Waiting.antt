-- While BUSY is on only turns and resets do anything, a turn brings it off in time, and no call moves another sector.
use Rattle.std.proofs.Common.{◌≡◌, ℕ, ◌+◌, ◌-◌, ◌<◌, ◌≤◌, Bool, true, false, ◌⊎◌, List, [], ◌∷◌, ◌++◌, Some, None, Option, sym, refl, ap, ◌∙◌, subst, inl, inr, append_assoc, arith}
use Rattle.std.proofs.lemmas.Bool.{both_ways, cases_lt, cases_eq, cases_Bool}
use Rattle.std.proofs.lemmas.Bool.Decides.{nat_tests}
use Rattle.task_file.specs.declared.sdh.Selection.{Selection}
use Rattle.task_file.specs.declared.state.Job.{Job}
use Rattle.task_file.specs.declared.state.Phase.{Phase}
use Rattle.task_file.specs.declared.state.Phase.TheVariants.{Busy}
use Rattle.task_file.specs.declared.state.State.{State}
use Rattle.task_file.specs.declared.view.DriveView.{DriveView}
use Rattle.task_file.specs.Registers.{cylinder_of}
use Rattle.task_file.specs.Sdh.{selected}
use Rattle.task_file.specs.State.{is_busy}
use Rattle.controller.specs.Access.{state_after_read, state_after_write}
use Rattle.controller.specs.Turns.{Turned, worked}
use Rattle.controller.specs.Model.{ControllerModel, with_drive, seen, turned_in}
use Rattle.controller.specs.declared.call.Call.{Call}
use Rattle.controller.specs.declared.call.Call.TheVariants as call
use Rattle.controller.specs.Runs.{called, runs, IsNew}
use Rattle.histories.specs.Working.{InOrder}
use Rattle.controller.proofs.Runs.{runs_joined}
use Rattle.histories.proofs.Working.{left_in}
use Rattle.histories.proofs.Orders.{head_in, left, turn_falls, order_call, none_left, Within, left_most}
use Rattle.round_trip.specs.Events.{busy, turn_event, event_of}
use Rattle.round_trip.specs.Ledger.{Notes, notes_of}
use Rattle.round_trip.specs.Laws.{BusyThroughout, turn_count, LeftAlone, NothingElseMoves, BusyEnds}
use Rattle.round_trip.proofs.Ledgers.{left_alone}
use Rattle.round_trip.proofs.Held.{Held, held_at, event_is, job_turn, idle_event}

-- ---- calls while BUSY is on
-- a read can only turn the interrupt off
pub busy_read : (s : State) (n : ℕ) → is_busy s.phase ≡ true → (state_after_read s n ≡ s) ⊎ (state_after_read s n ≡ record s { intrq = false })
unfolding state_after_read
busy_read s n on = elim (cases_eq n 7) [ inl e ↦ inr (grind (arith, nat_tests)) | inr other ↦ inl (grind (arith, nat_tests)) ]

-- a write does nothing
pub busy_write : (v : Option DriveView) (s : State) (n byte : ℕ) → is_busy s.phase ≡ true → state_after_write s v n byte ≡ s
unfolding state_after_write
busy_write v s n byte on = grind arith

-- so a register read leaves the controller but for the interrupt, and a register write leaves it the very same
pub read_waits : (b : ControllerModel) (n : ℕ) → busy b ≡ true → (i : Bool) × (called b (call.Read n) ≡ record b { state = record b.state { intrq = i } })
read_waits b n on =
    elim (busy_read b.state n on) [
      | inl same ↦ (b.state.intrq, ap (λ (s : State). record b { state = s }) same)
      | inr off ↦ (false, ap (λ (s : State). record b { state = s }) off)
    ]

pub write_waits : (b : ControllerModel) (n byte : ℕ) → busy b ≡ true → called b (call.Write n byte) ≡ b
write_waits b n byte on = ap (λ (s : State). record b { state = s }) (busy_write (seen b) b.state n byte on)

-- ---- BUSY all along
pub busy_first : (b : ControllerModel) (cs : List Call) → BusyThroughout b cs → busy b ≡ true
busy_first b [] on = on
busy_first b (c ∷ cs) on = on.0

pub busy_last : (b : ControllerModel) (cs : List Call) → BusyThroughout b cs → busy (runs b cs) ≡ true
unfolding runs
busy_last b [] on = on
busy_last b (c ∷ cs) on = busy_last (called b c) cs on.1

-- ---- lists of calls, one after another
pub turns_joined : (cs ds : List Call) → turn_count (cs ++ ds) ≡ turn_count cs + turn_count ds
turns_joined [] ds = omega arith
turns_joined (call.Read n ∷ cs) ds = turns_joined cs ds
turns_joined (call.Write n byte ∷ cs) ds = turns_joined cs ds
turns_joined (call.Turn ∷ cs) ds = omega (arith, turns_joined cs ds)
turns_joined (call.Reset ∷ cs) ds = turns_joined cs ds

-- ---- a turn brings BUSY off
-- whatever the interrupt, as many turns are left
head_same : (sel : Option Selection) (b : ControllerModel) (s : State) → head_in sel (record b { state = s }) ≡ head_in sel b
head_same sel b s = grind arith

left_same : (b : ControllerModel) (i : Bool) → left (record b { state = record b.state { intrq = i } }) ≡ left b
left_same b i = ap (λ h. left_in b.state.phase h (cylinder_of b.state.registers)) (head_same (selected b.state.registers.sdh) b (record b.state { intrq = i }))

-- while BUSY is on a turn is left
some_left : (b : ControllerModel) → InOrder b → busy b ≡ true → 1 ≤ left b
some_left b o on =
    elim (cases_lt 0 (left b)) [
      | inl some ↦ omega arith
      | inr none ↦ absurd (both_ways (busy b) (none_left b.state.phase b.state.registers _ _ o.counted none) on)
    ]

-- the turn that brings BUSY off, with fewer than n turns before it
pub record BroughtOff (b : ControllerModel) (n : ℕ) (cs : List Call) : Type 0 where
  pub waiting : List Call
  pub rest : List Call
  pub split : cs ≡ waiting ++ (call.Turn ∷ rest)
  pub few : turn_count waiting < n
  pub on : BusyThroughout b waiting
  pub off : busy (called (runs b waiting) call.Turn) ≡ false

-- one call more before it, where BUSY is on
one_more : (b : ControllerModel) (c : Call) (m n : ℕ) (cs : List Call) → busy b ≡ true → ((w : List Call) → turn_count w < m → turn_count (c ∷ w) < n)
    → BroughtOff (called b c) m cs → BroughtOff b n (c ∷ cs)
unfolding runs
one_more b c m n cs on more f =
    record { waiting = c ∷ f.waiting; rest = f.rest; split = ap (λ z. c ∷ z) f.split; few = more f.waiting f.few; on = (on, f.on); off = f.off }

pub brought_off : (cs : List Call) (n : ℕ) (b : ControllerModel) → InOrder b → busy b ≡ true → left b ≤ n → n ≤ turn_count cs → BroughtOff b n cs
unfolding runs
brought_off [] n b o on few enough = absurd (omega (arith, some_left b o on))
brought_off (call.Read k ∷ cs) n b o on few enough =
    let e = called b (call.Read k) in
    let read = read_waits b k on in
    let still : busy e ≡ true = ap busy read.1 ∙ on in
    let as_few : left e ≤ n = subst (λ m. m ≤ n) (sym (ap left read.1 ∙ left_same b read.0)) few in
    one_more b (call.Read k) n n cs on (λ w h. h) (brought_off cs n e (order_call b (call.Read k) o) still as_few enough)
brought_off (call.Write k byte ∷ cs) n b o on few enough =
    let e = called b (call.Write k byte) in
    let same = write_waits b k byte on in
    let still : busy e ≡ true = ap busy same ∙ on in
    let as_few : left e ≤ n = subst (λ m. m ≤ n) (sym (ap left same)) few in
    one_more b (call.Write k byte) n n cs on (λ w h. h) (brought_off cs n e (order_call b (call.Write k byte) o) still as_few enough)
brought_off (call.Turn ∷ cs) n b o on few enough =
    let e = called b call.Turn in
    let fewer : left e + 1 ≤ left b = turn_falls b o on in
    elim (cases_Bool (busy e)) [
      | inl still ↦ one_more b call.Turn (n - 1) n cs on (λ w h. omega arith) (brought_off cs (n - 1) e (order_call b call.Turn o) still (omega arith) (omega arith))
      | inr off ↦ record { waiting = []; rest = cs; split = refl; few = omega arith; on = on; off = off }
    ]
-- a reset leaves Test, which ends on the next turn
brought_off (call.Reset ∷ cs) n b o on few enough =
    let some = some_left b o on in
    let as_few : left (called b call.Reset) ≤ n = omega arith in
    one_more b call.Reset n n cs on (λ w h. h) (brought_off cs n (called b call.Reset) (order_call b call.Reset o) refl as_few enough)

-- ---- BUSY ends
-- some calls after which BUSY is off, with at most n turns
abbrev pub GoesOff : ControllerModel → ℕ → List Call → Type 0
GoesOff b n cs = (waiting : List Call) × ((rest : List Call) × ((cs ≡ waiting ++ rest) × (turn_count waiting ≤ n) × (busy (runs b waiting) ≡ false)))

pub goes_off : (cs : List Call) (n : ℕ) (b : ControllerModel) → InOrder b → left b ≤ n → n ≤ turn_count cs → GoesOff b n cs
unfolding runs
goes_off cs n b o few enough =
    elim (cases_Bool (busy b)) [
      | inl on ↦
          let f = brought_off cs n b o on few enough in
          let turn = call.Turn ∷ [] in
          let split = f.split ∙ sym (append_assoc f.waiting turn f.rest) in
          let off = ap busy (runs_joined b f.waiting turn) ∙ f.off in
          (f.waiting ++ turn, (f.rest, (split, omega (arith, turns_joined f.waiting turn, f.few), off)))
      | inr off ↦ ([], (cs, (refl, omega arith, off)))
    ]

-- wherever a history leads, at most 1,032 turns are left
pub left_at : (new : ControllerModel) → IsNew new → (history : List Call) → left (runs new history) ≤ 1032
left_at new is_new history =
    let h = held_at new is_new history in
    let within : Within 1024 (runs new history) =
    record {
      stands = λ bay. omega (arith, (h.sound bay).inside, (h.sound bay).few);
      ends = λ bay. (h.sound bay).few;
    } in
    left_most 1024 (runs new history) within h.order

pub busy_ends : (new : ControllerModel) → IsNew new → (history : List Call) → BusyEnds new history
busy_ends new is_new history before after split enough =
    goes_off after 1032 (runs new before) (held_at new is_new before).order (left_at new is_new before) enough

-- ---- nothing else moves
-- a turn on one of the drives
alone_job : (at : Selection) (j : Job) (n : Notes) (b : ControllerModel) → Held n b → b.state.phase ≡ Busy j
    → (t : Turned) → t ≡ worked j b.state at (b.drives at.bay) → (e : ControllerModel) → e ≡ with_drive b t.state at.bay t.drive
    → LeftAlone (turn_event (Busy j) (Some at) b) b e
alone_job at j n b h phase t is e made =
    let r = job_turn at j n b h phase t is e made in
    rw (event_is j at b) (left_alone at.bay b e r.others b.state.buffer _ r.changes)

alone_turn : (p : Phase) (sel : Option Selection) (n : Notes) (b : ControllerModel) → b.state.phase ≡ p → Held n b → LeftAlone (turn_event p sel b) b (turned_in p sel b)
alone_turn (Busy j) (Some at) n b phase h = alone_job at j n b h phase _ refl _ refl
alone_turn (Busy j) None n b phase h = λ t. refl
alone_turn p sel n b phase h = rw (idle_event p sel b refl) (λ t. refl)

alone_call : (n : Notes) (b : ControllerModel) (c : Call) → Held n b → LeftAlone (event_of b c) b (called b c)
unfolding event_of
alone_call n b (call.Read number) h = λ t. refl
alone_call n b (call.Write number byte) h = λ t. refl
alone_call n b call.Turn h = alone_turn b.state.phase (selected b.state.registers.sdh) n b refl h
alone_call n b call.Reset h = λ t. refl

pub nothing_else_moves : (new : ControllerModel) → IsNew new → (history : List Call) → NothingElseMoves new history
nothing_else_moves new is_new history before c rest split = alone_call (notes_of new before) (runs new before) c (held_at new is_new before)
