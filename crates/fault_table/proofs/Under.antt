-- What a read and a write under the entries come to, from what they come to below.
use Rattle.std.proofs.Common.{All, ◌≡◌, ℕ, true, false, cond, List, Some, Option, Err, ap, ◌∙◌, get_or, length, arith, drop}
use Rattle.std.specs.List.{find}
use Rattle.std.proofs.lemmas.List.{take_at, drop_at}
use Rattle.std.proofs.lemmas.List.Elements.{All-get_or}
use Rattle.sector.specs.Bits.{BitSet, inverted, both_of}
use Rattle.sector.specs.Sizes.{bytes_of}
use Rattle.sector.specs.declared.size.SizeCode.{SizeCode}
use Rattle.sector.proofs.Inverted.{inverted_both, length-inverted}
use Rattle.drive.proofs.Meant.{meant_at}
use Rattle.drive.specs.declared.place.Place.{Place}
use Rattle.drive.specs.declared.buffer.SectorBuffer.{SectorBuffer}
use Rattle.drive.specs.declared.answers.WriteError.TheVariants as write_error
use Rattle.drive.specs.Model.{Sector, no_sector, slot_of, wrong_bits, DriveModel}
use Rattle.drive.specs.Bounds.{Whole}
use Rattle.drive.specs.Calls.{delivered, shown, track_under, attempted_at, read_answer, handed_over, after_read, write_answer, after_write}
use Rattle.fault_table.specs.declared.entry.FaultEntry.{FaultEntry}
use Rattle.fault_table.specs.Entries.{applies_at, spent, hides_all}
use Rattle.fault_table.specs.Faults.{with_faults}
use Rattle.fault_table.specs.Under.{read_under, with_wrong_bits, handed_under}
use Rattle.fault_table.proofs.Covered.{shown_by, covered_first, laid_next}

-- the sector meant has as many bytes as the size asked for
meant_long : (ss : List Sector) (number : ℕ) (size : SizeCode) (k : ℕ) → All Whole ss → slot_of ss number size ≡ Some k → length (get_or ss k no_sector).bytes ≡ bytes_of size
meant_long ss number size k all e =
    let at = meant_at ss number size k e in
    (All-get_or Whole ss k no_sector at.0 all).bytes_long ∙ ap bytes_of at.2

-- more wrong bits in a sector of the size asked for
more_wrong : (size : SizeCode) (w v : BitSet) (x : Sector) (b : SectorBuffer) → length x.bytes ≡ bytes_of size → with_wrong_bits size w (delivered (wrong_bits v) x b) ≡ delivered (wrong_bits (both_of v w)) x b
more_wrong size w v x b long =
    let front : List ℕ = inverted v x.bytes in
    let back : List ℕ = drop (length x.bytes) b.bytes in
    let reach : length front ≡ length x.bytes = length-inverted v x.bytes in
    rw (← long, take_at front back (length x.bytes) reach, drop_at front back (length x.bytes) reach, inverted_both, inverted_both)

module _ (es : List FaultEntry) (d : DriveModel) (head number : ℕ) (size : SizeCode) where
  abbrev place : Place
  place = record { cylinder = d.cylinder; head = head; number = number }

  abbrev meets : Option FaultEntry
  meets = find (applies_at place) es

  shows : shown (with_faults es d) head number ≡ shown_by meets (shown d head number)
  shows = covered_first place es (d.outlook d.cylinder head number) 0

  left : with_faults (spent place es) (cond (hides_all meets) d (attempted_at d head number)) ≡ attempted_at (with_faults es d) head number
  left = grind (arith, laid_next place es d.outlook)

  module _ (ready : d.ready ≡ true) where
    -- ---- a read
    pub read_answered : read_answer (with_faults es d) head number size ≡ read_under meets (read_answer d head number size)
    unfolding read_answer
    read_answered = grind (arith, shows)

    pub read_handed : All Whole (track_under d head) → (b : SectorBuffer) → handed_over (with_faults es d) head number size b ≡ handed_under meets size (read_answer d head number size) b (handed_over d head number size b)
    unfolding read_answer handed_over
    read_handed whole b = grind (arith, shows, more_wrong, meant_long (track_under d head) number size)

    pub read_left : after_read (with_faults es d) head number ≡ with_faults (spent place es) (cond (hides_all meets) d (after_read d head number))
    unfolding after_read
    read_left = grind (arith, left)

    -- ---- a write
    module _ (free : d.protected ≡ false) where
      pub write_answered : write_answer (with_faults es d) head number size ≡ cond (hides_all meets) (Err write_error.NoId) (write_answer d head number size)
      unfolding write_answer
      write_answered = grind (arith, shows)

      pub write_left : (b : SectorBuffer) → after_write (with_faults es d) head number size b ≡ with_faults (spent place es) (cond (hides_all meets) d (after_write d head number size b))
      unfolding after_write
      write_left b = grind (arith, shows, left)

pub ruleset attempts = (read_answered, read_handed, read_left, write_answered, write_left)
