-- What each call on a drive answers and leaves.
use Rattle.std.specs.Prelude.{ℕ, ◌+◌, ◌-◌, ◌*◌, cond, not, ◌&&◌, List, ◌++◌, length, take, drop, Some, None, Option, Ok, Err, Result, is_ok, replicate, nat_le, nat_lt, slice_index_or, slice_set}
use Rattle.sector.specs.Bits.{inverted, from_bit}
use Rattle.sector.specs.Sizes.{bytes_of}
use Rattle.sector.specs.declared.size.SizeCode.{SizeCode}
use Rattle.drive.specs.declared.buffer.SectorBuffer.{SectorBuffer}
use Rattle.drive.specs.declared.answers.SectorId.{SectorId}
use Rattle.drive.specs.declared.answers.NotReady.{NotReady}
use Rattle.drive.specs.declared.answers.ReadError.{ReadError}
use Rattle.drive.specs.declared.answers.ReadError.TheVariants as read_error
use Rattle.drive.specs.declared.answers.WriteError.{WriteError}
use Rattle.drive.specs.declared.answers.WriteError.TheVariants as write_error
use Rattle.drive.specs.declared.answers.FormatError.{FormatError}
use Rattle.drive.specs.declared.answers.FormatError.TheVariants as format_error
use Rattle.drive.specs.Asking.{unless}
use Rattle.drive.specs.Model.{Sector, no_sector, slot_of, rewritten, blank_track, Showing, no_id, no_data_mark, wrong_bits, used_up, sector, track, DriveModel, with_track}

-- what a call that hands nothing back answers where it is done
abbrev pub done : {E : Type 0} → Result (Unit {0}) E
done = Ok tt

-- ---- steps
unfoldable pub step_answer : DriveModel → Result (Unit {0}) NotReady
step_answer d = unless d.ready (Err (record {})) done

-- one cylinder in, or none at the last
unfoldable pub stepped_in : DriveModel → DriveModel
stepped_in d = cond (d.ready && nat_lt (d.cylinder + 1) d.geometry.cylinders) (record d { cylinder = d.cylinder + 1 }) d

-- one cylinder out, or none at the first
unfoldable pub stepped_out : DriveModel → DriveModel
stepped_out d = cond (d.ready && nat_lt 0 d.cylinder) (record d { cylinder = d.cylinder - 1 }) d

-- one step toward a cylinder
abbrev pub nearer : DriveModel → ℕ → DriveModel
nearer d cylinder = cond (nat_lt d.cylinder cylinder) (stepped_in d) (cond (nat_lt cylinder d.cylinder) (stepped_out d) d)

-- ---- attempts
-- what an attempt comes to on a track: `missing` without a sector meant, `marked` where that one is marked bad,
-- and else what `good` says of its slot
abbrev pub on_slot : {A : Type 0} → Option ℕ → List Sector → A → A → (ℕ → A) → A
on_slot None ss missing marked good = missing
on_slot (Some k) ss missing marked good = cond (slice_index_or ss k no_sector).bad marked (good k)

-- the same under what the attempt shows: no ID hides every sector
abbrev pub attempted : {A : Type 0} → Showing → List Sector → ℕ → SizeCode → A → A → (ℕ → A) → A
attempted no_id ss number size missing marked good = missing
attempted shown ss number size missing marked good = on_slot (slot_of ss number size) ss missing marked good

-- the track of a head at the head's cylinder
abbrev pub track_under : DriveModel → ℕ → List Sector
track_under d head = d.track d.cylinder head

-- what the next attempt at a place of the head's cylinder shows
abbrev pub shown : DriveModel → ℕ → ℕ → Showing
shown d head number = d.outlook d.cylinder head number 0

-- the drive once an attempt has used up the first entry of its place
abbrev pub attempted_at : DriveModel → ℕ → ℕ → DriveModel
attempted_at d head number = record d { outlook = used_up d.outlook d.cylinder head number }

-- what a read of a good sector answers
abbrev pub read_of : Showing → Result (Unit {0}) ReadError
read_of no_id = Err read_error.NoId
read_of no_data_mark = Err read_error.NoDataMark
read_of (wrong_bits w) = done

-- what a read attempt answers: not ready, no ID, bad block, no data mark, or that it is done
unfoldable pub read_answer : DriveModel → ℕ → ℕ → SizeCode → Result (Unit {0}) ReadError
read_answer d head number size =
    unless d.ready (Err read_error.NotReady)
    (attempted (shown d head number) (track_under d head) number size (Err read_error.NoId) (Err read_error.BadBlock)
    (λ _. read_of (shown d head number)))

-- a buffer of zeros
abbrev pub blank_buffer : SectorBuffer
blank_buffer = record { bytes = replicate 1024 0; check = replicate 4 0 }

-- the buffer after a good sector was read: its bytes and check bytes, with the wrong bits inverted, over the front of what stood there
abbrev pub delivered : Showing → Sector → SectorBuffer → SectorBuffer
delivered (wrong_bits w) s b =
    record {
      bytes = inverted w s.bytes ++ drop (length s.bytes) b.bytes;
      check = inverted (from_bit (8 * length s.bytes) w) s.check;
    }
delivered hidden s b = b

-- the buffer that it hands over: of an attempt that is not done, the one that came
unfoldable pub handed_over : DriveModel → ℕ → ℕ → SizeCode → SectorBuffer → SectorBuffer
handed_over d head number size b =
    unless d.ready b
    (attempted (shown d head number) (track_under d head) number size b b
    (λ k. delivered (shown d head number) (slice_index_or (track_under d head) k no_sector) b))

-- what it leaves of the drive: the place's first outlook entry is used up
unfoldable pub after_read : DriveModel → ℕ → ℕ → DriveModel
after_read d head number = unless d.ready d (attempted_at d head number)

-- what a write attempt answers: not ready, protected, no ID, bad block, or that it is done
unfoldable pub write_answer : DriveModel → ℕ → ℕ → SizeCode → Result (Unit {0}) WriteError
write_answer d head number size =
    unless d.ready (Err write_error.NotReady)
    (unless (not d.protected) (Err write_error.Protected)
    (attempted (shown d head number) (track_under d head) number size (Err write_error.NoId) (Err write_error.BadBlock)
    (λ _. done)))

-- the drive after a write reached the sector at slot k: it has the buffer's first bytes, as many as its size, and the check bytes
abbrev pub written : DriveModel → ℕ → SizeCode → SectorBuffer → ℕ → DriveModel
written d head size b k =
    with_track d head
    (slice_set (track_under d head) k (rewritten (slice_index_or (track_under d head) k no_sector) (take (bytes_of size) b.bytes) b.check))
    (sector d.cylinder head k (take (bytes_of size) b.bytes) b.check)

-- what it leaves of the drive: one that is done replaces the sector
unfoldable pub after_write : DriveModel → ℕ → ℕ → SizeCode → SectorBuffer → DriveModel
after_write d head number size b =
    unless d.ready d
    (unless (not d.protected) d
    (attempted (shown d head number) (track_under d head) number size
    (attempted_at d head number)
    (attempted_at d head number)
    (written (attempted_at d head number) head size b)))

-- ---- formats
-- the first thing that stands against a format, or that nothing does
unfoldable pub format_answer : DriveModel → ℕ → List SectorId → SizeCode → Result (Unit {0}) FormatError
format_answer d head ids size =
    unless d.ready (Err format_error.NotReady)
    (unless (not d.protected) (Err format_error.Protected)
    (unless (nat_lt head d.geometry.heads) (Err format_error.BadHead)
    (unless (nat_le 1 (length ids) && nat_le (length ids) 64) (Err format_error.BadCount)
    (unless (nat_le (length ids * bytes_of size) d.geometry.capacity) (Err format_error.TooLong)
    done))))

-- a format that nothing stands against replaces the track; any other changes nothing
unfoldable pub after_format : DriveModel → ℕ → List SectorId → SizeCode → List ℕ → DriveModel
after_format d head ids size check =
    unless (is_ok (format_answer d head ids size)) d
    (with_track d head (blank_track ids size check) (track d.cylinder head ids size check))
