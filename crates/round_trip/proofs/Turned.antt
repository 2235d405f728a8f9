-- A turn of a job on a drive: the drive stays sound, the state kept, and the tracks change as the event says.
use Rattle.std.proofs.Common.{◌≡◌, ℕ, min, Bool, true, false, cond, not, ◌&&◌, eqb, ltb, List, [], take, Some, Option, sym, refl, subst, is_ok, Result, arith}
use Rattle.std.proofs.lemmas.Bool.{cond_both, eqb-true}
use Rattle.sector.specs.Sizes.{bytes_of}
use Rattle.drive.specs.declared.buffer.SectorBuffer.{SectorBuffer}
use Rattle.drive.specs.declared.answers.WriteError.{WriteError}
use Rattle.drive.specs.Model.{slot_of, blank_track, DriveModel, replaced}
use Rattle.drive.specs.Calls.{nearer, stepped_in, stepped_out, read_answer, handed_over, after_read, write_answer, format_answer}
use Rattle.task_file.specs.declared.bay.Bay.{Bay}
use Rattle.task_file.specs.declared.sdh.Selection.{Selection}
use Rattle.task_file.specs.declared.command.Command.{Command}
use Rattle.task_file.specs.declared.command.Command.TheVariants as command
use Rattle.task_file.specs.declared.state.ReadJob.{ReadJob}
use Rattle.task_file.specs.declared.state.WriteJob.{WriteJob}
use Rattle.task_file.specs.declared.state.Job.{Job}
use Rattle.task_file.specs.declared.state.Job.TheVariants.{Test, Restore, Seek, Read, Write, Format}
use Rattle.task_file.specs.declared.state.Phase.TheVariants.{Busy}
use Rattle.task_file.specs.declared.state.State.{State}
use Rattle.task_file.specs.Registers.{cylinder_of, sector_count}
use Rattle.task_file.specs.Sdh.{size_at, mode_at}
use Rattle.task_file.specs.State.{ended, requests}
use Rattle.task_file.specs.Attempts.{zero_check}
use Rattle.task_file.specs.Pairs.{ids_of}
use Rattle.controller.specs.Turns.{Turned, turned, restore_turn, once_there, read_act, write_act, format_act, ids_asked, worked}
use Rattle.round_trip.specs.Events.{track_named, sector_named, Event, nothing, sector_written, track_formatted}
use Rattle.round_trip.proofs.Tracks.{rewritten_at}
use Rattle.round_trip.proofs.Attempts as attempt
use Rattle.round_trip.proofs.Sound.{Sound, Buffered, sound_out, sound_nearer, sound_read, sound_write, sound_format, handed_buffered}
use Rattle.round_trip.proofs.Kept.{TakenFits, Agrees, Kept, turn_taken, read_kept, write_kept, format_kept}

-- ---- how tracks change
abbrev pub Unchanged : DriveModel → DriveModel → Type 0
Unchanged d e = (c h : ℕ) → e.track c h ≡ d.track c h

-- the tracks after an event, with what the buffer held
abbrev pub Changes : Bay → DriveModel → DriveModel → SectorBuffer → Event → Type 0
Changes bay d e b nothing = Unchanged d e
Changes bay d e b (sector_written name mode plain) =
    (name.track.bay ≡ bay)
    × ((k : ℕ) × ((slot_of (d.track name.track.cylinder name.track.head) name.number name.size ≡ Some k)
    × ((c h : ℕ) → e.track c h ≡ replaced d.track name.track.cylinder name.track.head (rewritten_at (d.track name.track.cylinder name.track.head) k (take (bytes_of name.size) b.bytes) b.check) c h)))
Changes bay d e b (track_formatted name count size mode) =
    (name.bay ≡ bay) × ((c h : ℕ) → e.track c h ≡ replaced d.track name.cylinder name.head (blank_track (ids_of b.bytes count) size (zero_check mode size)) c h)

-- ---- calls that leave the tracks
unchanged_nearer : (d : DriveModel) (goal : ℕ) → Unchanged d (nearer d goal)
unfolding stepped_in stepped_out
unchanged_nearer d goal c h = grind arith

unchanged_out : (d : DriveModel) → Unchanged d (stepped_out d)
unfolding stepped_out
unchanged_out d c h = grind arith

unchanged_read : (d : DriveModel) (head number : ℕ) → Unchanged d (after_read d head number)
unfolding after_read
unchanged_read d head number c h = grind arith

-- ---- one turn
pub record Leaves (bay : Bay) (taken : List ℕ) (o : Option Command) (s : State) (d : DriveModel) (event : Event) (t : Turned) : Type 0 where
  pub sound : Sound t.drive
  pub kept : Kept (turn_taken taken t.state) o t.state
  pub changes : Changes bay d t.drive s.buffer event

-- the events of a write and of a format at the cylinder of the registers, where the drive does them
abbrev pub written_event : Selection → State → WriteJob → Event
written_event at s j = sector_written (sector_named at s.registers) (mode_at s.registers.sdh) (not j.mode.long)

abbrev pub formatted_event : Selection → State → Event
formatted_event at s = track_formatted (track_named at s.registers) (min (sector_count s.registers) 64) (size_at s.registers.sdh) (mode_at s.registers.sdh)

-- the same, by what the drive answers and whether the head is there
abbrev pub write_event_by : Bool → Selection → State → WriteJob → DriveModel → Event
write_event_by there at s j d =
    cond (there && is_ok (write_answer d at.head s.registers.number (size_at s.registers.sdh))) (written_event at s j) nothing

abbrev pub format_event_by : Bool → Selection → State → DriveModel → Event
format_event_by there at s d =
    cond (there && is_ok (format_answer d at.head (ids_asked s) (size_at s.registers.sdh))) (formatted_event at s) nothing

-- the event of a job's turn
abbrev pub job_event : Selection → State → DriveModel → Job → Event
job_event at s d Test = nothing
job_event at s d (Restore steps) = nothing
job_event at s d Seek = nothing
job_event at s d (Read j) = nothing
job_event at s d (Write j) = write_event_by (eqb d.cylinder (cylinder_of s.registers)) at s j d
job_event at s d Format = format_event_by (eqb d.cylinder (cylinder_of s.registers)) at s d

module _ (at : Selection) (taken : List ℕ) (o : Option Command) (s : State) (d : DriveModel) (sound : Sound d) where
  abbrev R : Event → Turned → Type 0
  R = Leaves at.bay taken o s d

  abbrev goal : ℕ
  goal = cylinder_of s.registers

  ended_result : Buffered s.buffer → R nothing (turned (ended s) d)
  ended_result f = record { sound = sound; kept = record { buffered = f; fits = tt; agrees = tt }; changes = λ c h. refl }

  -- a busy state that stays as it is, one step nearer
  step_result : (j : Job) → s.phase ≡ Busy j → Kept taken o s → R nothing (turned s (nearer d goal))
  step_result j e k =
      record {
        sound = sound_nearer d goal sound;
        kept = subst (λ p. Kept (cond (requests p) [] taken) o s) (sym e) k;
        changes = unchanged_nearer d goal;
      }

  restore_result : (steps : ℕ) → s.phase ≡ Busy (Restore steps) → Kept taken o s → R nothing (restore_turn s steps d)
  restore_result steps e k =
      let a = rw e at k.agrees in
      cond_both (eqb d.cylinder 0) _ _ (R nothing) (λ _. ended_result k.buffered)
      (λ _. cond_both (ltb steps 1024) _ _ (R nothing)
      (λ _. record {
        sound = sound_out d sound;
        kept = record { buffered = k.buffered; fits = tt; agrees = a };
        changes = unchanged_out d;
      })
      (λ _. record { sound = sound; kept = record { buffered = k.buffered; fits = tt; agrees = tt }; changes = λ c h. refl }))

  read_result : (j : ReadJob) → o ≡ Some (command.Read j.mode) → Buffered s.buffer → R nothing (read_act s j at d)
  read_result j a f =
      let number = s.registers.number in
      let size = size_at s.registers.sdh in
      record {
        sound = sound_read d at.head number sound;
        kept = read_kept _ o j a (read_answer d at.head number size) (record s { buffer = handed_over d at.head number size s.buffer }) at (handed_buffered d at.head number size s.buffer sound f);
        changes = unchanged_read d at.head number;
      }

  -- a write attempt at its cylinder
  write_changes : (j : WriteJob) → d.cylinder ≡ goal → (a : Result (Unit {0}) WriteError) (e : DriveModel) → attempt.Wrote d at.head s.registers.number (size_at s.registers.sdh) s.buffer a e
      → Changes at.bay d e s.buffer (cond (is_ok a) (written_event at s j) nothing)
  write_changes j there a e (attempt.replaced k slot done is) = rw (done, is, ← there) (refl, (k, (slot, λ c h. refl)))
  write_changes j there a e (attempt.kept not_done is) = rw not_done (λ c h. grind arith)

  write_result : (j : WriteJob) → s.phase ≡ Busy (Write j) → Kept taken o s → R (write_event_by (eqb d.cylinder goal) at s j d) (once_there s d (write_act s j at d))
  write_result j e k = by_place (eqb d.cylinder goal) refl
    where
      again : Kept taken o (record s { phase = Busy (Write j) })
      again = record { buffered = k.buffered; fits = subst (λ p. TakenFits p s.registers s.buffer taken) e k.fits; agrees = subst (λ p. Agrees p o) e k.agrees }

      by_place : (there : Bool) → eqb d.cylinder goal ≡ there → R (write_event_by there at s j d) (cond there (write_act s j at d) (turned s (nearer d goal)))
      by_place false is = step_result (Write j) e k
      by_place true is =
          record {
            sound = sound_write d at.head s.registers.number (size_at s.registers.sdh) s.buffer k.buffered sound;
            kept = write_kept taken o s j again (write_answer d at.head s.registers.number (size_at s.registers.sdh)) at;
            changes = write_changes j (eqb-true d.cylinder goal is) _ _ (attempt.wrote d at.head s.registers.number (size_at s.registers.sdh) s.buffer);
          }

  -- a format at its cylinder
  format_changes : d.cylinder ≡ goal → (done : Bool) (e : DriveModel) → attempt.Formats d at.head (ids_asked s) (size_at s.registers.sdh) (zero_check (mode_at s.registers.sdh) (size_at s.registers.sdh)) done e
      → Changes at.bay d e s.buffer (cond done (formatted_event at s) nothing)
  format_changes there done e (attempt.laid is_done is) = rw (is_done, is, ← there) (refl, λ c h. refl)
  format_changes there done e (attempt.refused not_done is) = rw not_done (λ c h. grind arith)

  format_result : s.phase ≡ Busy Format → Kept taken o s → R (format_event_by (eqb d.cylinder goal) at s d) (once_there s d (format_act s at d))
  format_result e k = by_place (eqb d.cylinder goal) refl
    where
      by_place : (there : Bool) → eqb d.cylinder goal ≡ there → R (format_event_by there at s d) (cond there (format_act s at d) (turned s (nearer d goal)))
      by_place false is = step_result Format e k
      by_place true is =
          let size = size_at s.registers.sdh in
          let check = zero_check (mode_at s.registers.sdh) size in
          record {
            sound = sound_format d at.head (ids_asked s) size check refl sound;
            kept = format_kept _ o s k.buffered (format_answer d at.head (ids_asked s) size);
            changes = format_changes (eqb-true d.cylinder goal is) _ _ (attempt.formats d at.head (ids_asked s) size check);
          }

  pub turned_result : (j : Job) → s.phase ≡ Busy j → Kept taken o s → Leaves at.bay taken o s d (job_event at s d j) (worked j s at d)
  unfolding worked
  turned_result Test e k = ended_result k.buffered
  turned_result (Restore steps) e k = restore_result steps e k
  turned_result Seek e k = cond_both (eqb d.cylinder goal) _ _ (R nothing) (λ _. ended_result k.buffered) (λ _. step_result Seek e k)
  turned_result (Read j) e k =
      cond_both (eqb d.cylinder goal) _ _ (R nothing) (λ _. read_result j (rw e at k.agrees) k.buffered) (λ _. step_result (Read j) e k)
  turned_result (Write j) e k = write_result j e k
  turned_result Format e k = format_result e k
