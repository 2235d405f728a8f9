-- BUSY coming on for a read begins it afresh, and a read under way has its drive.
use Rattle.std.proofs.Common.{◌≡◌, ℕ, ◌<◌, Bool, true, false, ◌&&◌, eqb, Some, None, Option, refl, subst, arith}
use Rattle.std.proofs.lemmas.Bool.{and_from, not_from_false}
use Rattle.std.proofs.lemmas.Bool.Decides.{nat_tests}
use Rattle.std.specs.Option.{option_map}
use Rattle.task_file.specs.declared.command.Command.TheVariants as command
use Rattle.task_file.specs.declared.command.ReadMode.{ReadMode}
use Rattle.task_file.specs.declared.sdh.Selection.{Selection}
use Rattle.task_file.specs.declared.state.Job.TheVariants.{Read}
use Rattle.task_file.specs.declared.state.ReadJob.{ReadJob}
use Rattle.task_file.specs.declared.state.Phase.{Phase}
use Rattle.task_file.specs.declared.state.Phase.TheVariants.{Busy}
use Rattle.task_file.specs.declared.state.State.{State}
use Rattle.task_file.specs.declared.view.DriveView.{DriveView}
use Rattle.task_file.specs.Registers.{cylinder_of}
use Rattle.task_file.specs.Sdh.{selected}
use Rattle.task_file.specs.State.{first_read, is_busy}
use Rattle.task_file.specs.Beginning.{begun}
use Rattle.task_file.specs.Moving.{drawn_at, put_at}
use Rattle.controller.specs.Access.{state_after_read}
use Rattle.controller.specs.Model.{ControllerModel, view_of, seen_at, seen}
use Rattle.controller.specs.declared.call.Call.{Call}
use Rattle.controller.specs.declared.call.Call.TheVariants as call
use Rattle.controller.specs.Runs.{called}
use Rattle.histories.specs.Working.{under_way, Able, InOrder}
use Rattle.histories.proofs.Working.{able_job, able_none}
use Rattle.round_trip.specs.Events.{busy, accepts, busy_comes_on, SectorName, sector_named}
use Rattle.round_trip.specs.Ledger.{Notes}
use Rattle.round_trip.specs.Laws.{sector_now}
use Rattle.round_trip.proofs.Accessed as access
use Rattle.round_trip.proofs.Kept.{Agrees, Kept}

-- ---- BUSY coming on
-- of writes only a command begins a read
write_afresh : (s : State) (v : Option DriveView) (n byte : ℕ) (j : ReadJob) (done : Bool) (t : State) → access.Accessed s v n byte done t → t.phase ≡ Busy (Read j) → is_busy s.phase ≡ false → j ≡ first_read j.mode
unfolding put_at begun
write_afresh s v n byte j done t a reads off = grind arith

pub begins_afresh : (b : ControllerModel) (c : Call) (j : ReadJob) → busy_comes_on b c ≡ true → (called b c).state.phase ≡ Busy (Read j) → j ≡ first_read j.mode
unfolding state_after_read drawn_at
begins_afresh b (call.Read n) j on reads = grind (arith, nat_tests)
begins_afresh b (call.Write n byte) j on reads = write_afresh b.state (seen b) n byte j _ _ (access.accessed b.state (seen b) byte n) reads (grind arith)
begins_afresh b call.Turn j on reads = grind arith
begins_afresh b call.Reset j on reads = cc

-- an accepted command that turns BUSY on has cleared the failure, and found BUSY off
write_clean : (s : State) (v : Option DriveView) (n byte : ℕ) (done : Bool) (t : State) → access.Accessed s v n byte done t → (eqb n 7 && done) ≡ true → is_busy t.phase ≡ true
    → (t.failure ≡ None) × (is_busy s.phase ≡ false)
unfolding begun
write_clean s v n byte done t a command on = (grind arith, grind arith)

pub accepted_clean : (b : ControllerModel) (byte : ℕ) → accepts b (call.Write 7 byte) ≡ true → busy (called b (call.Write 7 byte)) ≡ true
    → ((called b (call.Write 7 byte)).state.failure ≡ None) × (busy b ≡ false)
accepted_clean b byte accepted on = write_clean b.state (seen b) 7 byte _ _ (access.accessed b.state (seen b) byte 7) accepted on

pub accepted_begins : (b : ControllerModel) (byte : ℕ) → accepts b (call.Write 7 byte) ≡ true → busy (called b (call.Write 7 byte)) ≡ true → busy_comes_on b (call.Write 7 byte) ≡ true
accepted_begins b byte accepted on = and_from _ _ on (not_from_false _ (accepted_clean b byte accepted on).1)

-- ---- the read under way
pub read_in_force : (n : Notes) (b : ControllerModel) (m : ReadMode) → Kept n.taken n.in_force b.state → n.in_force ≡ Some (command.Read m) → busy b ≡ true
    → (j : ReadJob) × ((b.state.phase ≡ Busy (Read j)) × (j.mode ≡ m))
read_in_force n b m kept forced on = by_phase b.state.phase refl kept.agrees on
  where
    by_phase : (p : Phase) → b.state.phase ≡ p → Agrees p n.in_force → is_busy p ≡ true → (j : ReadJob) × ((b.state.phase ≡ Busy (Read j)) × (j.mode ≡ m))
    by_phase (Busy (Read j)) e agrees on = (j, (e, cc))
    by_phase p e agrees on = grind arith

-- the drive of a sector is ready, and has the registers' cylinder
abbrev pub InReach : ControllerModel → SectorName → Type 0
InReach b name = ((b.drives name.track.bay).ready ≡ true) × (cylinder_of b.state.registers < (b.drives name.track.bay).geometry.cylinders)

selected_has : (sel : Option Selection) (b : ControllerModel) (j : ReadJob) → Able (Some (command.Read j.mode)) b.state.registers (option_map (seen_at b) sel)
    → (name : SectorName) × ((option_map (λ at. sector_named at b.state.registers) sel ≡ Some name) × InReach b name)
selected_has (Some at) b j able = (sector_named at b.state.registers, (refl, able_job (Read j) b.state.registers (view_of at (b.drives at.bay)) able (λ e. cc)))
selected_has None b j able = absurd (able_none (Read j) b.state.registers able (λ e. cc))

-- SDH selects a drive, and so the registers name a sector
pub read_names : (b : ControllerModel) (j : ReadJob) → InOrder b → b.state.phase ≡ Busy (Read j) → (name : SectorName) × ((sector_now b ≡ Some name) × InReach b name)
read_names b j order reads =
    selected_has (selected b.state.registers.sdh) b j (subst (λ p. Able (under_way p) b.state.registers (seen b)) reads order.able)

pub read_selected : (b : ControllerModel) (j : ReadJob) → InOrder b → b.state.phase ≡ Busy (Read j) → (name : SectorName) → sector_now b ≡ Some name → InReach b name
read_selected b j order reads name named =
    let on = read_names b j order reads in
    let same : on.0 ≡ name = cc in
    subst (InReach b) same on.1.1
