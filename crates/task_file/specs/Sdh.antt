-- SDH: check code, sector size, bay and head, both ways.
use Rattle.std.specs.Prelude.{ℕ, ◌+◌, ◌*◌, ◌/◌, ◌%◌, cond, ◌&&◌, Some, None, Option, ◌==◌, nat_le}
use Rattle.std.specs.Option.{option_map}
use Rattle.sector.specs.declared.size.SizeCode.{SizeCode}
use Rattle.sector.specs.Sizes.{number_of, size_numbered}
use Rattle.check_code.specs.declared.mode.CheckMode.{CheckMode}
use Rattle.check_code.specs.declared.mode.CheckMode.TheVariants.{Crc, Ecc}
use Rattle.task_file.specs.declared.bay.Bay.{Bay}
use Rattle.task_file.specs.declared.bay.Bay.TheVariants.{Winchester1, Floppy1}
use Rattle.task_file.specs.declared.sdh.Selection.{Selection}
use Rattle.task_file.specs.declared.sdh.Sdh.{Sdh}

-- ---- what a byte says
-- the sector size: bits 6 and 5
abbrev pub size_at : ℕ → SizeCode
size_at sdh = size_numbered (sdh / 32)

-- the check code: bit 7
abbrev pub mode_at : ℕ → CheckMode
mode_at sdh = cond (nat_le 128 sdh) Ecc Crc

-- the bay and the head: bits 4 and 3 are 0 for Winchester 1, with the head in bits 2 to 0, or 3 for a floppy;
-- then bits 2 and 1 are 0 for floppy 1, and bit 0 is the head. Anything else selects no bay.
abbrev pub selected : ℕ → Option Selection
selected sdh =
    cond (sdh / 8 % 4 == 0) (Some (record { bay = Winchester1; head = sdh % 8 }))
    (cond (sdh / 8 % 4 == 3 && sdh / 2 % 4 == 0) (Some (record { bay = Floppy1; head = sdh % 2 })) None)

-- all of it, of a byte that selects a bay
abbrev pub sdh_at : ℕ → Option Sdh
sdh_at sdh = option_map (λ at. record { mode = mode_at sdh; size = size_at sdh; at = at }) (selected sdh)

-- ---- the byte that says it
-- bit 7
abbrev pub mode_bit : CheckMode → ℕ
mode_bit Crc = 0
mode_bit Ecc = 128

-- how many heads SDH can select in a bay
abbrev pub heads_in : Bay → ℕ
heads_in Winchester1 = 8
heads_in Floppy1 = 2

-- bits 4 to 0 of a bay at head 0
abbrev pub bay_bits : Bay → ℕ
bay_bits Winchester1 = 0
bay_bits Floppy1 = 24

-- the byte; of the head only as much as the bay has bits for
abbrev pub sdh_byte : Sdh → ℕ
sdh_byte s = mode_bit s.mode + 32 * number_of s.size + bay_bits s.at.bay + s.at.head % heads_in s.at.bay
