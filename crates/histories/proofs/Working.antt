-- One turn of a job that can be done: what is under way stays doable, its counters in range, and fewer turns are left.
use Rattle.std.proofs.Common.{◌≡◌, ℕ, ◌+◌, ◌-◌, ◌<◌, ◌≤◌, Bool, true, false, eqb, Some, None, Option, Result, refl, arith}
use Rattle.std.proofs.lemmas.Bool.{cond_both, eqb-false}
use Rattle.std.proofs.lemmas.Bool.Decides.{nat_tests}
use Rattle.sector.specs.declared.size.SizeCode.{SizeCode}
use Rattle.check_code.specs.declared.mode.CheckMode.{CheckMode}
use Rattle.drive.specs.declared.answers.ReadError.{ReadError}
use Rattle.drive.specs.declared.answers.WriteError.{WriteError}
use Rattle.drive.specs.declared.answers.FormatError.{FormatError}
use Rattle.drive.specs.Model.{DriveModel}
use Rattle.drive.specs.Calls.{stepped_in, stepped_out, nearer, read_answer, handed_over, after_read, write_answer, after_write, format_answer, after_format}
use Rattle.task_file.specs.declared.sdh.Selection.{Selection}
use Rattle.task_file.specs.declared.registers.Registers.{Registers}
use Rattle.task_file.specs.declared.command.Command.TheVariants as command
use Rattle.task_file.specs.declared.attempts.Verdict.{Verdict}
use Rattle.task_file.specs.declared.attempts.Verdict.TheVariants.{Retry}
use Rattle.task_file.specs.declared.state.ReadJob.{ReadJob}
use Rattle.task_file.specs.declared.state.WriteJob.{WriteJob}
use Rattle.task_file.specs.declared.state.Job.{Job}
use Rattle.task_file.specs.declared.state.Job.TheVariants.{Test, Restore, Seek, Read, Write, Format}
use Rattle.task_file.specs.declared.state.Phase.{Phase}
use Rattle.task_file.specs.declared.state.Phase.TheVariants.{Busy}
use Rattle.task_file.specs.declared.state.State.{State}
use Rattle.task_file.specs.declared.view.DriveView.{DriveView}
use Rattle.task_file.specs.Registers.{cylinder_of}
use Rattle.task_file.specs.Sdh.{size_at, mode_at}
use Rattle.task_file.specs.Aborting.{aborts}
use Rattle.task_file.specs.Moving.{moved_length}
use Rattle.task_file.specs.Attempts.{outcome_of, verdict_of, read_by, read_judged, write_judged, format_judged}
use Rattle.controller.specs.Model.{view_of}
use Rattle.controller.specs.Turns.{Turned, turned, once_there, read_act, write_act, format_act, ids_asked, worked}
use Rattle.histories.specs.Working.{under_way, Able, Counted}

-- ---- what a command that is not aborted has
-- a job but Test has a drive
pub able_none : (j : Job) (r : Registers) → Able (under_way (Busy j)) r None → (j ≡ Test → ⊥) → ⊥
unfolding aborts
able_none Test r a no_test = no_test refl
able_none j r a no_test = cc

-- which is ready, and has the cylinder
pub able_job : (j : Job) (r : Registers) (v : DriveView) → Able (under_way (Busy j)) r (Some v) → (j ≡ Test → ⊥) → (v.ready ≡ true) × (cylinder_of r < v.geometry.cylinders)
unfolding aborts
able_job Test r v a no_test = absurd (no_test refl)
able_job j r v a no_test = (grind arith, grind (arith, nat_tests))

-- some bytes move for a sector of any size
pub moves_some : (size : SizeCode) (long : Bool) → 0 < moved_length size long
moves_some size long = grind arith

-- ---- steps
-- how many steps there are between two cylinders
abbrev pub apart : ℕ → ℕ → ℕ
apart a b = (a - b) + (b - a)

-- a step out lowers the cylinder
stepped_lower : (d : DriveModel) → d.ready ≡ true → 0 < d.cylinder → (stepped_out d).cylinder + 1 ≤ d.cylinder
unfolding stepped_out
stepped_lower d ready above = grind (arith, nat_tests)

-- a step toward a cylinder that the drive has is one step nearer
nearer_by_one : (d : DriveModel) (target : ℕ) → d.ready ≡ true → target < d.geometry.cylinders → (d.cylinder ≡ target → ⊥) → apart (nearer d target).cylinder target + 1 ≤ apart d.cylinder target
unfolding stepped_in stepped_out
nearer_by_one d target ready has ne = grind (arith, nat_tests)

-- ---- turns that are left
-- at most how many turns a phase has left, with the head at one cylinder and the registers at another
abbrev pub left_in : Phase → ℕ → ℕ → ℕ
left_in (Busy Test) at target = 1
left_in (Busy (Restore steps)) at target = at + 1
left_in (Busy Seek) at target = apart at target + 1
left_in (Busy (Read j)) at target = apart at target + (9 - j.attempts)
left_in (Busy (Write j)) at target = apart at target + (9 - j.attempts)
left_in (Busy Format) at target = apart at target + 1
left_in p at target = 0

-- ---- what a turn leads to
-- the state after it, at a drive seen as v with its head at a cylinder, where n turns were left
pub record Onward (v : DriveView) (s : State) (at n : ℕ) (t : State) : Type 0 where
  pub same_sdh : t.registers.sdh ≡ s.registers.sdh
  pub able : Able (under_way t.phase) t.registers (Some v)
  pub counted : Counted t.phase t.registers
  pub fewer : left_in t.phase at (cylinder_of t.registers) + 1 ≤ n

-- attempts at the cylinder, and a format: one attempt fewer is left, or the job is done
module _ (v : DriveView) (s : State) (on : Selection) (at : ℕ) where
  -- only before the ninth attempt another one is made
  again_below : (mode : CheckMode) (j : ReadJob) (o : Result (Option ℕ) ReadError) (previous : Option ℕ) → verdict_of mode j.attempts j.previous o ≡ Retry previous → j.attempts < 8
  again_below mode j o previous again = grind (arith, nat_tests)

  verdict_on : (j : ReadJob) → aborts (command.Read j.mode) s.registers (Some v) ≡ false → j.attempts ≤ 8 → (u : Verdict) → ((previous : Option ℕ) → u ≡ Retry previous → j.attempts < 8)
      → Onward v s at (apart at (cylinder_of s.registers) + (9 - j.attempts)) (read_by u s j on)
  unfolding aborts
  verdict_on j able few u again = record { same_sdh = grind arith; able = grind arith; counted = grind (arith, moves_some); fewer = grind (arith, nat_tests) }

  read_on : (j : ReadJob) → aborts (command.Read j.mode) s.registers (Some v) ≡ false → j.attempts ≤ 8 → (a : Result (Unit {0}) ReadError) → Onward v s at (apart at (cylinder_of s.registers) + (9 - j.attempts)) (read_judged a s j on)
  unfolding read_judged
  read_on j able few a =
      let mode = mode_at s.registers.sdh in
      let shown = outcome_of a j.mode.long mode (size_at s.registers.sdh) s.buffer in
      verdict_on j able few (verdict_of mode j.attempts j.previous shown) (again_below mode j shown)

  write_on : (j : WriteJob) → aborts (command.Write j.mode) s.registers (Some v) ≡ false → j.attempts ≤ 8 → (a : Result (Unit {0}) WriteError) → Onward v s at (apart at (cylinder_of s.registers) + (9 - j.attempts)) (write_judged a s j on)
  unfolding aborts
  write_on j able few a = record { same_sdh = grind arith; able = grind arith; counted = grind (arith, moves_some); fewer = grind (arith, nat_tests) }

  format_on : (a : Result (Unit {0}) FormatError) → Onward v s at (apart at (cylinder_of s.registers) + 1) (format_judged a s)
  format_on a = record { same_sdh = grind arith; able = grind arith; counted = grind arith; fewer = grind arith }

-- ---- a turn of a job
module _ (on : Selection) (s : State) (d : DriveModel) where
  abbrev v : DriveView
  v = view_of on d

  abbrev goal : ℕ
  goal = cylinder_of s.registers

  -- what is seen of the drive stays
  pub same_view : (j : Job) → view_of on (worked j s on d).drive ≡ v
  unfolding worked stepped_in stepped_out after_read after_write after_format
  same_view j = grind arith

  -- the job goes on
  abbrev pub Advances : Job → Turned → Type 0
  Advances j t = Onward v s t.drive.cylinder (left_in (Busy j) d.cylinder goal) t.state

  -- a step toward the cylinder, or the act
  seeking : (j : Job) (act : Turned) → s.phase ≡ Busy j → (j ≡ Test → ⊥) → Able (under_way (Busy j)) s.registers (Some v) → Counted (Busy j) s.registers
      → ((e : ℕ) → apart e goal + 1 ≤ apart d.cylinder goal → left_in (Busy j) e goal + 1 ≤ left_in (Busy j) d.cylinder goal)
      → Onward v s d.cylinder (left_in (Busy j) d.cylinder goal) act.state → act.drive.cylinder ≡ d.cylinder → Advances j (once_there s d act)
  seeking j act phase no_test able counted closer there stands =
      let has = able_job j s.registers v able no_test in
      cond_both (eqb d.cylinder goal) act (turned s (nearer d goal)) (Advances j)
      (λ _. rw stands there)
      (λ off. record {
        same_sdh = refl;
        able = rw phase able;
        counted = rw phase counted;
        fewer = rw phase (closer (nearer d goal).cylinder (nearer_by_one d goal has.0 has.1 (eqb-false d.cylinder goal off)));
      })

  pub advances : (j : Job) → s.phase ≡ Busy j → Able (under_way (Busy j)) s.registers (Some v) → Counted (Busy j) s.registers → Advances j (worked j s on d)
  unfolding worked aborts stepped_out after_read after_write after_format
  advances Test phase able counted = record { same_sdh = refl; able = tt; counted = tt; fewer = omega arith }
  advances (Restore steps) phase able counted = record { same_sdh = grind arith; able = grind arith; counted = grind (arith, nat_tests); fewer = grind (arith, nat_tests, able_job) }
  advances Seek phase able counted = record { same_sdh = grind arith; able = grind arith; counted = grind arith; fewer = grind (arith, nat_tests, able_job, nearer_by_one) }
  advances (Read j) phase able counted =
      let number = s.registers.number in
      let size = size_at s.registers.sdh in
      let act = read_on v (record s { buffer = handed_over d on.head number size s.buffer }) on d.cylinder j able counted (read_answer d on.head number size) in
      seeking (Read j) (read_act s j on d) phase (λ e. cc) able counted (λ e h. omega arith)
      (record { same_sdh = act.same_sdh; able = act.able; counted = act.counted; fewer = act.fewer }) (grind arith)
  advances (Write j) phase able counted =
      seeking (Write j) (write_act s j on d) phase (λ e. cc) able counted (λ e h. omega arith)
      (write_on v s on d.cylinder j able counted (write_answer d on.head s.registers.number (size_at s.registers.sdh))) (grind arith)
  advances Format phase able counted =
      seeking Format (format_act s on d) phase (λ e. cc) able counted (λ e h. omega arith)
      (format_on v s on d.cylinder (format_answer d on.head (ids_asked s) (size_at s.registers.sdh))) (grind arith)
