-- The entries that the faults of the program make.
use Rattle.std.specs.Prelude.{ℕ, ◌+◌, ◌*◌, ◌%◌, List, [], map, flat_map, slice_index_or}
use Rattle.std.specs.List.{enumerate_from}
use Rattle.sector.specs.declared.wrong_bits.Burst.{Burst}
use Rattle.drive.specs.declared.place.Place.{Place}
use Rattle.fault_table.specs.declared.entry.FaultEntry.{FaultEntry}
use Rattle.program_parts.specs.declared.faults.Stretch.{Stretch}

-- the burst of a record, somewhere among the 4,128 bits of its sector, that ends by the last of them
abbrev pub burst_by_rule : ℕ → Burst
burst_by_rule index = record { first = (index % 4096) * 409 % 4124; pattern = 2 * (index % 16) + 1 }

-- the entry that a stretch of a record's faults makes
abbrev pub entry_for : ℕ → Place → Stretch → FaultEntry
entry_for index place s = record { place = place; kind = s.kind; burst = burst_by_rule index; attempts = s.attempts }

-- the entries that the faults of one record make: record r meets those of row r modulo 4
abbrev pub wanted_at : List (List Stretch) → ℕ × Place → List FaultEntry
wanted_at rows at = map (entry_for at.0 at.1) (slice_index_or rows (at.0 % 4) [])

-- the entries that the faults of the records at these places make, record by record
abbrev pub wanted : List (List Stretch) → List Place → List FaultEntry
wanted rows places = flat_map (wanted_at rows) (enumerate_from 0 places)
