-- What a drive shows under the entries of a fault table.
use Rattle.std.specs.Prelude.{ℕ, ◌+◌, ◌-◌, cond, List, [], ◌∷◌, nat_lt}
use Rattle.sector.specs.Bits.{BitSet, both_of, set_of}
use Rattle.drive.specs.Model.{Showing, no_id, no_data_mark, wrong_bits, Outlook, DriveModel}
use Rattle.drive.specs.declared.place.Place.{Place}
use Rattle.fault_table.specs.declared.entry.FaultKind.{FaultKind}
use Rattle.fault_table.specs.declared.entry.FaultKind.TheVariants.{NoId, NoDataMark, WrongBits}
use Rattle.fault_table.specs.declared.entry.FaultEntry.{FaultEntry}
use Rattle.fault_table.specs.declared.table.FaultTable.{FaultTable}
use Rattle.fault_table.specs.Entries.{same_place, hides}

-- ---- one attempt
-- what an attempt shows under an entry of a kind, with these wrong bits: no ID hides all, no data mark all but no ID, and a bit
-- that is wrong twice is right
abbrev pub shown_under : FaultKind → BitSet → Showing → Showing
shown_under NoId w s = no_id
shown_under NoDataMark w no_id = no_id
shown_under NoDataMark w no_data_mark = no_data_mark
shown_under NoDataMark w (wrong_bits v) = no_data_mark
shown_under WrongBits w no_id = no_id
shown_under WrongBits w no_data_mark = no_data_mark
shown_under WrongBits w (wrong_bits v) = wrong_bits (both_of v w)

-- how many entries of the outlook below so many attempts use up: under no ID they do not get there
abbrev pub used_below : FaultKind → ℕ → ℕ
used_below kind k = cond (hides kind) 0 k

-- ---- all that are to come
-- What attempt k at a place shows under the entries, over a drive that shows `below` there and has shown so many of it already:
-- each entry of the place covers so many attempts, one after another in the order of adding, and the attempts after them show what
-- is left below.
abbrev pub covered : Place → List FaultEntry → (ℕ → Showing) → ℕ → ℕ → Showing
covered p [] below used k = below (used + k)
covered p (e ∷ es) below used k =
    cond (same_place e.place p)
    (cond (nat_lt k e.attempts)
    (shown_under e.kind (set_of e.burst) (below (used + k)))
    (covered p es below (used + used_below e.kind e.attempts) (k - e.attempts)))
    (covered p es below used k)

-- the outlook of a drive under the entries
abbrev pub laid_over : List FaultEntry → Outlook → Outlook
laid_over es o c h n = covered (record { cylinder = c; head = h; number = n }) es (o c h n) 0

-- the drive under the entries
abbrev pub with_faults : List FaultEntry → DriveModel → DriveModel
with_faults es d = record d { outlook = laid_over es d.outlook }

-- ---- a table
-- its entries, used-up ones too, in the order of adding
abbrev pub entries_in : {D : Type 0} → FaultTable D → List FaultEntry
entries_in t = t.faults.items

-- the drive under them
abbrev pub drive_under : {D : Type 0} → FaultTable D → D
drive_under t = t.drive

-- what it means, by what the make of its drive means
abbrev pub table_model : {D : Type 0} → (D → DriveModel) → FaultTable D → DriveModel
table_model meaning t = with_faults (entries_in t) (meaning (drive_under t))
