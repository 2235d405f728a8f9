-- The invariant of all histories, with what is noted of them, and that every call keeps it.
use Rattle.std.proofs.Common.{◌≡◌, ℕ, zero, suc, ◌+◌, ◌*◌, ◌≤◌, min, slice_index, Bool, true, false, cond, not, ◌&&◌, eqb, List, [], ◌∷◌, ◌++◌, length, take, Option, sym, refl, ap, ◌∙◌, subst, inl, Some, None, arith}
use Rattle.std.proofs.lemmas.List.{length-take-le, get_or-take}
use Rattle.std.proofs.lemmas.Bool.{not-true, cond_both}
use Rattle.sector.specs.Sizes.{bytes_of}
use Rattle.sector.proofs.Sizes.{bytes_least, bytes_most}
use Rattle.drive.specs.Model.{DriveModel}
use Rattle.task_file.specs.declared.bay.Bay.{Bay}
use Rattle.task_file.specs.declared.sdh.Selection.{Selection}
use Rattle.task_file.specs.declared.command.Command.{Command}
use Rattle.task_file.specs.declared.state.Job.{Job}
use Rattle.task_file.specs.declared.state.Job.TheVariants.{Write, Format}
use Rattle.task_file.specs.declared.state.Phase.{Phase}
use Rattle.task_file.specs.declared.state.Phase.TheVariants.{Busy}
use Rattle.task_file.specs.declared.state.State.{State}
use Rattle.task_file.specs.Bays.{same_bay}
use Rattle.task_file.specs.Registers.{sector_count}
use Rattle.task_file.specs.Sdh.{size_at, mode_at, selected}
use Rattle.task_file.specs.Moving.{put_at}
use Rattle.task_file.specs.Pairs.{ids_of}
use Rattle.task_file.specs.Commands.{command_of}
use Rattle.task_file.specs.State.{is_busy, requests}
use Rattle.controller.specs.Turns.{Turned, worked, without_drive}
use Rattle.controller.specs.Model.{ControllerModel, with_drive, seen, turned_in}
use Rattle.controller.specs.declared.call.Call.{Call}
use Rattle.controller.specs.declared.call.Call.TheVariants as call
use Rattle.controller.specs.Runs.{called, runs, IsNew}
use Rattle.histories.specs.Working.{InOrder}
use Rattle.histories.proofs.Orders.{order_call, order_new, drive_put}
use Rattle.round_trip.specs.Events.{sector_named, TrackName, Event, nothing, sector_written, turn_event, event_of}
use Rattle.round_trip.specs.Ledger.{entered, Notes, no_notes, noted, notes_from, notes_of}
use Rattle.round_trip.specs.Laws.{track_of}
use Rattle.round_trip.proofs.Sound.{Sound, Buffered, sound_drive}
use Rattle.round_trip.proofs.Accessed as access
use Rattle.round_trip.proofs.Kept.{TakenFits, Kept, news, taken_now, turn_taken, kept_same, kept_read, kept_put, kept_begun}
use Rattle.round_trip.proofs.Turned.{Changes, Leaves, formatted_event, job_event, turned_result}
use Rattle.round_trip.proofs.Ledgers.{LedgerHeld, ledger_same, FitsEvent, ledger_after}

-- The invariant: in order; sound drives; a kept state; and each plain entry of the ledger stands on its track.
pub record Held (n : Notes) (b : ControllerModel) : Type 0 where
  pub order : InOrder b
  pub sound : (bay : Bay) → Sound (b.drives bay)
  pub kept : Kept n.taken n.in_force b.state
  pub ledger : LedgerHeld b n.ledger

pub held_made : (new : ControllerModel) → IsNew new → Held no_notes new
held_made new is_new =
    record {
      order = order_new new is_new;
      sound = λ bay. sound_drive (new.drives bay) (is_new.a_drive bay);
      kept = rw is_new.is_fresh (record { buffered = record { bytes_long = refl; check_long = refl }; fits = tt; agrees = inl refl });
      ledger = λ name x is plain. cc;
    }

-- ---- calls that are no turns
held_read : (n : Notes) (b : ControllerModel) (number : ℕ) → Held n b → Held (noted b (call.Read number) n) (called b (call.Read number))
unfolding event_of
held_read n b number h =
    record {
      order = order_call b (call.Read number) h.order;
      sound = h.sound;
      kept = kept_read n.taken n.in_force b.state number h.kept;
      ledger = ledger_same b (called b (call.Read number)) n.ledger (λ t. refl) h.ledger;
    }

-- the state and the notes after a write, by what it came to
write_kept_by : (n : Notes) (b : ControllerModel) (number byte : ℕ) → Held n b → (done : Bool) (t : State) → access.Accessed b.state (seen b) number byte done t
    → Kept (taken_now b.state.phase t.phase (eqb number 7 && done) (cond (eqb number 0 && done) (n.taken ++ (byte ∷ [])) n.taken)) (cond (eqb number 7 && done) (command_of byte) n.in_force) t
write_kept_by n b number byte h done t (access.left_alone no_0 no_7 is) = rw (no_0, no_7, is) (kept_same n.taken n.in_force b.state h.kept)
write_kept_by n b number byte h done t (access.took l p taking is_0 no_7 is) =
    let after = put_at b.state l p byte in
    let no_news : news b.state.phase after.phase false ≡ false = rw taking (grind arith) in
    rw (is_0, no_7, is, no_news) (kept_put n.taken n.in_force b.state byte h.kept h.order.counted l p taking)
write_kept_by n b number byte h done t (access.began c idle given no_0 is_7 is) = rw (no_0, is_7, is, given) (kept_begun n.taken b.state c (seen b) h.kept.buffered)
write_kept_by n b number byte h done t (access.kept r rest no_0 no_7 is) =
    let same = kept_same n.taken n.in_force b.state h.kept in
    rw (no_0, no_7, is) (record { buffered = same.buffered; fits = rw rest tt; agrees = same.agrees })

held_write : (n : Notes) (b : ControllerModel) (number byte : ℕ) → Held n b → Held (noted b (call.Write number byte) n) (called b (call.Write number byte))
unfolding event_of
held_write n b number byte h =
    record {
      order = order_call b (call.Write number byte) h.order;
      sound = h.sound;
      kept = write_kept_by n b number byte h _ _ (access.accessed b.state (seen b) byte number);
      ledger = ledger_same b (called b (call.Write number byte)) n.ledger (λ t. refl) h.ledger;
    }

held_reset : (n : Notes) (b : ControllerModel) → Held n b → Held (noted b call.Reset n) (called b call.Reset)
unfolding event_of
held_reset n b h =
    record {
      order = order_call b call.Reset h.order;
      sound = h.sound;
      kept = record { buffered = h.kept.buffered; fits = tt; agrees = inl refl };
      ledger = ledger_same b (called b call.Reset) n.ledger (λ t. refl) h.ledger;
    }

-- ---- turns
-- what a drive put into a bay leaves of the tracks and the drives beside it
other_bay : (b : ControllerModel) (s : State) (bay : Bay) (d : DriveModel) (t : TrackName) → same_bay t.bay bay ≡ false → track_of (with_drive b s bay d) t ≡ track_of b t
other_bay b s bay d t off = rw (track_of, off) refl

sound_put : (n : Notes) (b : ControllerModel) (s : State) (bay : Bay) (d : DriveModel) → Held n b → Sound d → (q : Bay) → Sound ((with_drive b s bay d).drives q)
sound_put n b s bay d h z q = cond_both (same_bay q bay) d (b.drives q) Sound (λ _. z) (λ _. h.sound q)

-- the first pairs of some bytes are in as many bytes as they take
ids_front : (xs : List ℕ) (n count : ℕ) → 2 * count ≤ n → ids_of (take n xs) count ≡ ids_of xs count
ids_front xs n zero few = refl
ids_front xs n (suc k) few =
    let mark : slice_index (take n xs) (2 * k) ≡ slice_index xs (2 * k) = get_or-take n xs (2 * k) 0 (omega arith) in
    let number : slice_index (take n xs) (2 * k + 1) ≡ slice_index xs (2 * k + 1) = get_or-take n xs (2 * k + 1) 0 (omega arith) in
    rw (ids_front xs n k (omega arith), mark, number) refl

-- what is entered of a plain write or a format is what the buffer holds
event_fits : (bay : Bay) (b e : ControllerModel) (others : (t : TrackName) → same_bay t.bay bay ≡ false → track_of e t ≡ track_of b t) (n : Notes) (at : Selection) (j : Job) → Held n b → b.state.phase ≡ Busy j
    → FitsEvent bay b e others b.state.buffer n.taken (job_event at b.state (b.drives at.bay) j)
event_fits bay b e others n at (Write j) h phase = fits_written _
  where
    fits_written : (written : Bool) → FitsEvent bay b e others b.state.buffer n.taken (cond written (sector_written (sector_named at b.state.registers) (mode_at b.state.registers.sdh) (not j.mode.long)) nothing)
    fits_written true = λ plain.
        let fit = subst (λ p. TakenFits p b.state.registers b.state.buffer n.taken) phase h.kept.fits (not-true j.mode.long plain) in
        let size = bytes_of (size_at b.state.registers.sdh) in
        let few : size ≤ length b.state.buffer.bytes = omega (arith, bytes_most (size_at b.state.registers.sdh), h.kept.buffered.bytes_long) in
        (fit.0, fit.1, ap length (sym fit.0) ∙ length-take-le size b.state.buffer.bytes few)
    fits_written false = tt
event_fits bay b e others n at Format h phase = fits_formatted _
  where
    count : ℕ
    count = min (sector_count b.state.registers) 64

    fits_formatted : (formatted : Bool) → FitsEvent bay b e others b.state.buffer n.taken (cond formatted (formatted_event at b.state) nothing)
    fits_formatted true =
        let size = size_at b.state.registers.sdh in
        let fit : take (bytes_of size) b.state.buffer.bytes ≡ n.taken = subst (λ p. TakenFits p b.state.registers b.state.buffer n.taken) phase h.kept.fits in
        subst (λ ys. ids_of ys count ≡ ids_of b.state.buffer.bytes count) fit (ids_front b.state.buffer.bytes (bytes_of size) count (omega (arith, bytes_least size)))
    fits_formatted false = tt
event_fits bay b e others n at j h phase = grind arith

-- the event of a busy controller's turn is its job's
pub event_is : (j : Job) (at : Selection) (b : ControllerModel) → turn_event (Busy j) (Some at) b ≡ job_event at b.state (b.drives at.bay) j
event_is j at b = grind arith

-- the notes after a turn between two phases
abbrev noted_turn : Phase → Phase → Event → Notes → Notes
noted_turn p q event n = record { taken = taken_now p q false n.taken; ledger = entered event n.taken n.ledger; in_force = n.in_force }

-- what a turn of a job on the drive in a bay leads to: sound drives, a kept state, the tracks of other bays as they were and those of this one as the event says
pub record JobTurn (bay : Bay) (n : Notes) (b e : ControllerModel) (event : Event) : Type 0 where
  pub sound : (q : Bay) → Sound (e.drives q)
  pub kept : Kept (turn_taken n.taken e.state) n.in_force e.state
  pub others : (u : TrackName) → same_bay u.bay bay ≡ false → track_of e u ≡ track_of b u
  pub changes : Changes bay (b.drives bay) (e.drives bay) b.state.buffer event

pub job_turn : (at : Selection) (j : Job) (n : Notes) (b : ControllerModel) → Held n b → b.state.phase ≡ Busy j
    → (t : Turned) → t ≡ worked j b.state at (b.drives at.bay) → (e : ControllerModel) → e ≡ with_drive b t.state at.bay t.drive
    → JobTurn at.bay n b e (job_event at b.state (b.drives at.bay) j)
job_turn at j n b h phase t is e made =
    let s = b.state in
    let d = b.drives at.bay in
    let r : Leaves at.bay n.taken n.in_force s d (job_event at s d j) t = rw is (turned_result at n.taken n.in_force s d (h.sound at.bay) j phase h.kept) in
    let drive : e.drives at.bay ≡ t.drive = rw made (drive_put b t.state at.bay t.drive) in
    let state : e.state ≡ t.state = rw made refl in
    record {
      sound = rw made (sound_put n b t.state at.bay t.drive h r.sound);
      kept = rw state r.kept;
      others = λ u other. rw made (other_bay b t.state at.bay t.drive u other);
      changes = rw drive r.changes;
    }

held_job : (at : Selection) (j : Job) (n : Notes) (b : ControllerModel) → Held n b → b.state.phase ≡ Busy j
    → (t : Turned) → t ≡ worked j b.state at (b.drives at.bay) → (e : ControllerModel) → e ≡ with_drive b t.state at.bay t.drive → InOrder e
    → Held (noted_turn (Busy j) e.state.phase (turn_event (Busy j) (Some at) b) n) e
held_job at j n b h phase t is e made order =
    let event = job_event at b.state (b.drives at.bay) j in
    let r = job_turn at j n b h phase t is e made in
    let no_command : news (Busy j) e.state.phase false ≡ requests e.state.phase = grind arith in
    record {
      order = order;
      sound = r.sound;
      kept = rw no_command r.kept;
      ledger = rw (event_is j at b)
          (ledger_after at.bay b e r.others b.state.buffer n.taken n.ledger event r.changes (event_fits at.bay b e r.others n at j h phase) h.ledger);
    }

-- nothing is left to do where no drive is selected
without_kept : (taken : List ℕ) (o : Option Command) (j : Job) (s : State) → Buffered s.buffer → Kept taken o (without_drive j s)
without_kept taken o j s f = record { buffered = record { bytes_long = grind arith; check_long = grind arith }; fits = grind arith; agrees = grind arith }

-- at rest and while bytes move nothing happens
pub idle_event : (p : Phase) (sel : Option Selection) (b : ControllerModel) → is_busy p ≡ false → turn_event p sel b ≡ nothing
idle_event p sel b idle = grind arith

held_idle : (p : Phase) (sel : Option Selection) (n : Notes) (b : ControllerModel) → b.state.phase ≡ p → is_busy p ≡ false → Held n b → Held (noted_turn p b.state.phase (turn_event p sel b) n) b
held_idle p sel n b phase idle h =
    rw (idle_event p sel b idle)
    (record {
      order = h.order;
      sound = h.sound;
      kept = subst (λ q. Kept (taken_now q b.state.phase false n.taken) n.in_force b.state) phase (kept_same n.taken n.in_force b.state h.kept);
      ledger = h.ledger;
    })

held_turn_by : (p : Phase) (sel : Option Selection) (n : Notes) (b : ControllerModel) → b.state.phase ≡ p → Held n b → InOrder (turned_in p sel b) → Held (noted_turn p (turned_in p sel b).state.phase (turn_event p sel b) n) (turned_in p sel b)
held_turn_by (Busy j) (Some at) n b phase h order = held_job at j n b h phase _ refl _ refl order
held_turn_by (Busy j) None n b phase h order =
    record {
      order = order;
      sound = h.sound;
      kept = without_kept _ n.in_force j b.state h.kept.buffered;
      ledger = ledger_same b (record b { state = without_drive j b.state }) n.ledger (λ t. refl) h.ledger;
    }
held_turn_by p sel n b phase h order = held_idle p sel n b phase refl h

held_turn : (n : Notes) (b : ControllerModel) → Held n b → Held (noted b call.Turn n) (called b call.Turn)
unfolding event_of
held_turn n b h = held_turn_by b.state.phase (selected b.state.registers.sdh) n b refl h (order_call b call.Turn h.order)

-- ---- every call, and every history
pub held_call : (n : Notes) (b : ControllerModel) (c : Call) → Held n b → Held (noted b c n) (called b c)
held_call n b (call.Read number) h = held_read n b number h
held_call n b (call.Write number byte) h = held_write n b number byte h
held_call n b call.Turn h = held_turn n b h
held_call n b call.Reset h = held_reset n b h

pub held_from : (n : Notes) (b : ControllerModel) (cs : List Call) → Held n b → Held (notes_from b n cs) (runs b cs)
unfolding notes_from runs
held_from n b [] h = h
held_from n b (c ∷ cs) h = held_from (noted b c n) (called b c) cs (held_call n b c h)

pub held_at : (new : ControllerModel) → IsNew new → (history : List Call) → Held (notes_of new history) (runs new history)
held_at new is_new history = held_from no_notes new history (held_made new is_new)
