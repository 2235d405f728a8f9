-- The ledger's plain entries stand on the tracks, and an event that changes a track changes the ledger with it.
use Rattle.std.proofs.Common.{◌≡◌, ℕ, true, false, cond, List, length, take, replicate, Some, sym, ap, ◌∙◌, subst, inl, inr, arith, length-set, get_or-set_other}
use lib.ListN.{length-replicate}
use Rattle.std.proofs.lemmas.Bool.Decides.{nat_tests}
use Rattle.std.proofs.lemmas.Bool.{cases_Bool, cond-true, cond-false}
use Rattle.sector.specs.Sizes.{bytes_of}
use Rattle.check_code.specs.Code.{check_bytes_of}
use Rattle.check_code.specs.Mode.{code_of}
use Rattle.drive.specs.declared.buffer.SectorBuffer.{SectorBuffer}
use Rattle.drive.specs.Model.{Sector, no_sector, slot_of, blank_track, replaced}
use Rattle.task_file.specs.declared.bay.Bay.{Bay}
use Rattle.task_file.specs.Bays.{same_bay}
use Rattle.task_file.specs.Attempts.{zero_check}
use Rattle.task_file.specs.Pairs.{ids_of}
use Rattle.controller.specs.Model.{ControllerModel}
use Rattle.round_trip.specs.Events.{TrackName, SectorName, same_track, same_sector, Event, nothing, sector_written, track_formatted}
use Rattle.round_trip.specs.Ledger.{Writing, Ledger, numbered, entered}
use Rattle.round_trip.specs.Laws.{track_of, LeftAlone}
use Rattle.round_trip.proofs.Names.{same_track_is, same_track_self, same_size_is, same_sector_is, apart_on_track}
use Rattle.round_trip.proofs.Tracks.{Stands, rewritten_at, stands_written, stands_beside, stands_formatted}
use Rattle.round_trip.proofs.Turned.{Changes}

-- a plain last writing stands on its track, with its check bytes, and is as long as its size code says
abbrev pub WrittenThere : ControllerModel → SectorName → Writing → Type 0
WrittenThere b name x =
    Stands (track_of b name.track) name.number name.size x.bytes (check_bytes_of (code_of x.mode) x.bytes) × (length x.bytes ≡ bytes_of name.size)

abbrev pub LedgerHeld : ControllerModel → Ledger → Type 0
LedgerHeld b l = (name : SectorName) (x : Writing) → l name ≡ Some x → x.plain ≡ true → WrittenThere b name x

-- ---- the tracks
pub ledger_same : (b e : ControllerModel) (l : Ledger) → ((t : TrackName) → track_of e t ≡ track_of b t) → LedgerHeld b l → LedgerHeld e l
ledger_same b e l same held name x is plain =
    subst (λ tr. Stands tr name.number name.size x.bytes (check_bytes_of (code_of x.mode) x.bytes) × (length x.bytes ≡ bytes_of name.size)) (sym (same name.track))
    (held name x is plain)

-- one track of one drive replaced
module _ (bay : Bay) (b e : ControllerModel) (others : (t : TrackName) → same_bay t.bay bay ≡ false → track_of e t ≡ track_of b t) where
  pub tracks_replaced : (name : TrackName) (new : List Sector) → name.bay ≡ bay
      → ((c h : ℕ) → (e.drives bay).track c h ≡ replaced (b.drives bay).track name.cylinder name.head new c h)
      → (t : TrackName) → track_of e t ≡ cond (same_track name t) new (track_of b t)
  tracks_replaced name new in_bay change t = grind (arith, nat_tests, others t, change t.cylinder t.head)

  -- where a track stays
  pub stays : ((c h : ℕ) → (e.drives bay).track c h ≡ (b.drives bay).track c h) → (t : TrackName) → track_of e t ≡ track_of b t
  stays same t = grind (arith, others t, same t.cylinder t.head)

  -- ---- the ledger after an event
  -- what the bytes taken have to do with the buffer where a plain write is entered
  abbrev pub FitsEvent : SectorBuffer → List ℕ → Event → Type 0
  FitsEvent buf taken nothing = Unit {0}
  FitsEvent buf taken (sector_written name mode plain) =
      plain ≡ true → (take (bytes_of name.size) buf.bytes ≡ taken) × (buf.check ≡ check_bytes_of (code_of mode) taken) × (length taken ≡ bytes_of name.size)
  FitsEvent buf taken (track_formatted name count size mode) = ids_of taken count ≡ ids_of buf.bytes count

  pub ledger_after : (buf : SectorBuffer) (taken : List ℕ) (l : Ledger) (event : Event) → Changes bay (b.drives bay) (e.drives bay) buf event → FitsEvent buf taken event → LedgerHeld b l → LedgerHeld e (entered event taken l)
  ledger_after buf taken l nothing change fits held name x is plain = ledger_same b e l (stays change) held name x is plain
  ledger_after buf taken l (sector_written name mode whole) change fits held other x is plain =
      let track = (b.drives bay).track name.track.cylinder name.track.head in
      let k = change.1.0 in
      let new = rewritten_at track k (take (bytes_of name.size) buf.bytes) buf.check in
      let slot : slot_of track name.number name.size ≡ Some k = change.1.1.0 in
      let written = stands_written track name.number name.size k (take (bytes_of name.size) buf.bytes) buf.check slot in
      let after = tracks_replaced name.track new change.0 change.1.1.1 other.track in
      let before : track ≡ track_of b name.track = grind arith in
      elim (cases_Bool (same_sector name other)) [
        | inl it ↦
            let entry : record { bytes = taken; mode = mode; plain = whole } ≡ x = grind arith in
            let fit = fits (ap (λ (y : Writing). y.plain) entry ∙ plain) in
            let on : track_of e name.track ≡ new = tracks_replaced name.track new change.0 change.1.1.1 name.track ∙ cond-true (same_track name.track name.track) new _ (same_track_self name.track) in
            let stands : Stands new name.number name.size taken (check_bytes_of (code_of mode) taken) = record { slot = written.slot; found = written.found; bytes_are = written.bytes_are ∙ fit.0; check_are = written.check_are ∙ fit.1 } in
            subst (λ z. WrittenThere e z x) (same_sector_is name other it) (subst (WrittenThere e name) entry (rw on stands, fit.2))
        | inr other_one ↦
            let old = held other x (grind arith) plain in
            elim (cases_Bool (same_track name.track other.track)) [
              | inl on ↦
                  let here : Stands track other.number other.size x.bytes (check_bytes_of (code_of x.mode) x.bytes) = rw (before, same_track_is name.track other.track on) old.0 in
                  (rw (after ∙ cond-true (same_track name.track other.track) new _ on) (stands_beside track name.number name.size k _ buf.check slot other.number other.size _ _ (apart_on_track name other other_one on) here), old.1)
              | inr off ↦ (rw (after ∙ cond-false (same_track name.track other.track) new _ off) old.0, old.1)
            ]
      ]
  ledger_after buf taken l (track_formatted name count size mode) change fits held other x is plain =
      let ids = ids_of buf.bytes count in
      let new = blank_track ids size (zero_check mode size) in
      let after = tracks_replaced name new change.0 change.1 other.track in
      elim (cases_Bool (same_track name other.track)) [
        | inl on ↦
            let entry : record { bytes = replicate (bytes_of size) 0; mode = mode; plain = true } ≡ x = grind arith in
            let numbered : numbered ids other.number ≡ true = rw (← fits) (grind arith) in
            let same : size ≡ other.size = same_size_is size other.size (grind arith) in
            let stands = stands_formatted ids size (zero_check mode size) other.number numbered in
            (record { slot = stands.slot; found = grind arith; bytes_are = grind arith; check_are = grind arith }, grind (arith, length-replicate))
        | inr off ↦ let old = held other x (grind arith) plain in (rw (after ∙ cond-false (same_track name other.track) new _ off) old.0, old.1)
      ]

  -- ---- what an event leaves alone
  pub left_alone : (buf : SectorBuffer) (event : Event) → Changes bay (b.drives bay) (e.drives bay) buf event → LeftAlone event b e
  left_alone buf nothing change = stays change
  left_alone buf (sector_written name mode whole) change =
      let track = (b.drives bay).track name.track.cylinder name.track.head in
      let k = change.1.0 in
      let new = rewritten_at track k (take (bytes_of name.size) buf.bytes) buf.check in
      let after = tracks_replaced name.track new change.0 change.1.1.1 in
      let before : track ≡ track_of b name.track = grind arith in
      let on : track_of e name.track ≡ new = after name.track ∙ cond-true (same_track name.track name.track) new _ (same_track_self name.track) in (
        (λ t off. after t ∙ cond-false (same_track name.track t) new _ off),
        (λ i no_slot.
            let other : i ≡ k → ⊥ = λ q. no_slot (rw (← before, q) change.1.1.0) in
            rw (on, ← before) (get_or-set_other track k i _ no_sector other)),
        rw (on, ← before) (length-set track k _),
      )
  left_alone buf (track_formatted name count size mode) change =
      λ t off. tracks_replaced name (blank_track (ids_of buf.bytes count) size (zero_check mode size)) change.0 change.1 t ∙ cond-false (same_track name t) _ _ off
