-- What a write attempt, a format and a read attempt come to, answer and effect together.
use Rattle.std.proofs.Common.{◌≡◌, ℕ, Bool, true, false, cond, not, ◌⊎◌, List, get_or, Some, None, Option, refl, inl, inr, Err, Result, is_ok, arith}
use Rattle.sector.specs.declared.size.SizeCode.{SizeCode}
use Rattle.drive.specs.Asking.{unless}
use Rattle.drive.specs.declared.buffer.SectorBuffer.{SectorBuffer}
use Rattle.drive.specs.declared.answers.SectorId.{SectorId}
use Rattle.drive.specs.declared.answers.ReadError.{ReadError}
use Rattle.drive.specs.declared.answers.ReadError.TheVariants as read_error
use Rattle.drive.specs.declared.answers.WriteError.{WriteError}
use Rattle.drive.specs.declared.answers.WriteError.TheVariants as write_error
use Rattle.drive.specs.Model.{Sector, no_sector, slot_of, blank_track, Showing, no_id, no_data_mark, wrong_bits, DriveModel, with_track, track}
use Rattle.drive.specs.Calls.{done, on_slot, attempted, track_under, shown, attempted_at, read_answer, delivered, handed_over, after_read, write_answer, written, after_write, format_answer, after_format}

-- ---- writing
-- a write attempt replaces the sector meant, or it leaves the drive but for its outlook
pub data Wrote (d : DriveModel) (head number : ℕ) (size : SizeCode) (b : SectorBuffer) (answer : Result (Unit {0}) WriteError) (e : DriveModel) : Type 0 where
  replaced : (k : ℕ) → slot_of (track_under d head) number size ≡ Some k → is_ok answer ≡ true → e ≡ written (attempted_at d head number) head size b k → Wrote d head number size b answer e
  kept : is_ok answer ≡ false → (e ≡ d) ⊎ (e ≡ attempted_at d head number) → Wrote d head number size b answer e

module _ (d : DriveModel) (head number : ℕ) (size : SizeCode) (b : SectorBuffer) where
  abbrev W : Result (Unit {0}) WriteError → DriveModel → Type 0
  W = Wrote d head number size b

  wrote_slot : (o : Option ℕ) → slot_of (track_under d head) number size ≡ o
      → W (on_slot o (track_under d head) (Err write_error.NoId) (Err write_error.BadBlock) (λ _. done))
      (on_slot o (track_under d head) (attempted_at d head number) (attempted_at d head number) (written (attempted_at d head number) head size b))
  wrote_slot None e = kept refl (inr refl)
  wrote_slot (Some k) e = by_mark (get_or (track_under d head) k no_sector).bad
    where
      by_mark : (bad : Bool) → W (cond bad (Err write_error.BadBlock) done) (cond bad (attempted_at d head number) (written (attempted_at d head number) head size b k))
      by_mark true = kept refl (inr refl)
      by_mark false = replaced k e refl refl

  wrote_shown : (sh : Showing)
      → W (attempted sh (track_under d head) number size (Err write_error.NoId) (Err write_error.BadBlock) (λ _. done))
      (attempted sh (track_under d head) number size (attempted_at d head number) (attempted_at d head number) (written (attempted_at d head number) head size b))
  wrote_shown no_id = kept refl (inr refl)
  wrote_shown no_data_mark = wrote_slot (slot_of (track_under d head) number size) refl
  wrote_shown (wrong_bits w) = wrote_slot (slot_of (track_under d head) number size) refl

  pub wrote : W (write_answer d head number size) (after_write d head number size b)
  unfolding write_answer after_write
  wrote = by_drive d.ready (not d.protected)
    where
      by_drive : (ready open_to : Bool) → W
          (unless ready (Err write_error.NotReady) (unless open_to (Err write_error.Protected) (attempted (shown d head number) (track_under d head) number size (Err write_error.NoId) (Err write_error.BadBlock) (λ _. done))))
          (unless ready d (unless open_to d (attempted (shown d head number) (track_under d head) number size (attempted_at d head number) (attempted_at d head number) (written (attempted_at d head number) head size b))))
      by_drive false o = kept refl (inl refl)
      by_drive true false = kept refl (inl refl)
      by_drive true true = wrote_shown (shown d head number)

-- ---- formatting
-- a format replaces the track or leaves the drive
pub data Formats (d : DriveModel) (head : ℕ) (ids : List SectorId) (size : SizeCode) (check : List ℕ) (done : Bool) (e : DriveModel) : Type 0 where
  laid : done ≡ true → e ≡ with_track d head (blank_track ids size check) (track d.cylinder head ids size check) → Formats d head ids size check done e
  refused : done ≡ false → e ≡ d → Formats d head ids size check done e

pub formats : (d : DriveModel) (head : ℕ) (ids : List SectorId) (size : SizeCode) (check : List ℕ) → Formats d head ids size check (is_ok (format_answer d head ids size)) (after_format d head ids size check)
unfolding after_format
formats d head ids size check = by_answer (is_ok (format_answer d head ids size))
  where
    by_answer : (done : Bool) → Formats d head ids size check done (unless done d (with_track d head (blank_track ids size check) (track d.cylinder head ids size check)))
    by_answer true = laid refl refl
    by_answer false = refused refl refl

-- ---- reading
-- a read attempt at a sector that stands on the track of a ready drive
module _ (d : DriveModel) (head number : ℕ) (size : SizeCode) (b : SectorBuffer) (k : ℕ) (ready : d.ready ≡ true) (slot : slot_of (track_under d head) number size ≡ Some k) where
  abbrev pub sector : Sector
  sector = get_or (track_under d head) k no_sector

  -- the answer by what is shown and the mark, and the buffer
  abbrev pub answer_by : Showing → Bool → Result (Unit {0}) ReadError
  answer_by no_id bad = (Err read_error.NoId)
  answer_by no_data_mark bad = cond bad (Err read_error.BadBlock) (Err read_error.NoDataMark)
  answer_by (wrong_bits w) bad = cond bad (Err read_error.BadBlock) done

  abbrev pub buffer_by : Showing → Bool → SectorBuffer
  buffer_by no_id bad = b
  buffer_by no_data_mark bad = b
  buffer_by (wrong_bits w) bad = cond bad b (delivered (wrong_bits w) sector b)

  pub read_is : (sh : Showing) (bad : Bool) → shown d head number ≡ sh → sector.bad ≡ bad → read_answer d head number size ≡ answer_by sh bad
  unfolding read_answer
  read_is sh bad is_shown is_bad = grind arith

  pub handed_is : (sh : Showing) (bad : Bool) → shown d head number ≡ sh → sector.bad ≡ bad → handed_over d head number size b ≡ buffer_by sh bad
  unfolding handed_over
  handed_is sh bad is_shown is_bad = grind arith

pub after_read_is : (d : DriveModel) (head number : ℕ) → d.ready ≡ true → after_read d head number ≡ attempted_at d head number
unfolding after_read
after_read_is d head number ready = grind arith
