-- The worked examples of codes and controller, as one list.
use Rattle.std.specs.Prelude.{◌≡◌, ℕ, true, false, cond, ◌&&◌, List, [], ◌∷◌, ◌++◌, replicate, Ok, Result, ◌==◌, nat_lt}
use Rattle.sector.specs.declared.size.SizeCode.TheVariants.{Bytes128}
use Rattle.sector.specs.Bits.{marked}
use Rattle.check_code.specs.Code.{Code, crc_code, ecc_code, check_bytes_of}
use Rattle.check_code.specs.Examples.{Examples}
use Rattle.drive.specs.Model.{Sector, Showing, no_id, wrong_bits, intact, DriveModel}
use Rattle.task_file.specs.declared.bay.Bay.{Bay}
use Rattle.task_file.specs.declared.bay.Bay.TheVariants.{Winchester1}
use Rattle.task_file.specs.Bays.{same_bay}
use Rattle.controller.specs.declared.access.Refusal.{Refusal}
use Rattle.controller.specs.Model.{ControllerModel, made, read_answered}
use Rattle.controller.specs.declared.call.Call.{Call}
use Rattle.controller.specs.declared.call.Call.TheVariants.{Write, Turn}
use Rattle.controller.specs.Runs.{runs}

-- ---- drives for the examples
-- a ready drive of four cylinders and one head, by its room, its head's cylinder, its only track and what its attempts show
abbrev pub example_drive : ℕ → ℕ → List Sector → (ℕ → Showing) → DriveModel
example_drive capacity cylinder sectors shows =
    record {
      geometry = record { cylinders = 4; heads = 1; capacity = capacity };
      ready = true;
      protected = false;
      cylinder = cylinder;
      track = λ c h. cond (c == 0 && h == 0) sectors [];
      outlook = λ c h n k. shows k;
      memory = [];
      layout = λ change m. m;
    }

-- a good sector of 128 zeros, written under a code
abbrev pub zero_sector : Code → ℕ → Sector
zero_sector code number =
    record { number = number; size = Bytes128; bad = false; bytes = replicate 128 0; check = check_bytes_of code (replicate 128 0) }

-- no damage
abbrev pub undamaged : ℕ → Showing
undamaged k = intact

-- no ID for the first n attempts, and then no damage
abbrev pub hidden : ℕ → ℕ → Showing
hidden n k = cond (nat_lt k n) no_id intact

-- no ID once, and then the same burst, one wrong bit, again and again
abbrev pub burst_after_no_id : ℕ → Showing
burst_after_no_id k = cond (nat_lt k 1) no_id (wrong_bits (marked 0 1))

-- ---- what the host does and sees
-- a drive in Winchester 1, and in every other bay one that is undamaged and has no sectors
abbrev pub in_winchester_1 : DriveModel → Bay → DriveModel
in_winchester_1 d bay = cond (same_bay bay Winchester1) d (example_drive 0 0 [] undamaged)

-- the host's calls on a controller over these drives, after Test has ended
abbrev pub after : DriveModel → List Call → ControllerModel
after d calls = runs (made (in_winchester_1 d)) (Turn ∷ calls)

-- what a status read answers
abbrev pub status : ControllerModel → Result ℕ Refusal
status b = read_answered b 7

-- the same so many times
abbrev pub so_many : {A : Type 0} → ℕ → A → List A
so_many n x = replicate n x

-- a read command at sector 0 of cylinder 0, in sectors of 128 bytes under CRC, and so many turns
abbrev pub read_crc : ℕ → List Call
read_crc turns = Write 6 0x60 ∷ Write 7 0x20 ∷ so_many turns Turn

-- the same under ECC
abbrev pub read_ecc : ℕ → List Call
read_ecc turns = Write 6 0xe0 ∷ Write 7 0x20 ∷ so_many turns Turn

-- a format of 64 sectors of 128 bytes
abbrev pub format_64 : List Call
format_64 = Write 2 64 ∷ Write 6 0x60 ∷ Write 7 0x50 ∷ []

-- What is computed from the definitions.
pub record WorkedExamples : Type 0 where
  -- of the check codes
  pub codes : Examples
  -- a new controller reads 80h; after one turn 50h, where Winchester 1 is ready and unprotected; with SDH 08h, 00h
  pub new_controller : (drives : Bay → DriveModel) → status (made drives) ≡ Ok 0x80
  pub after_one_turn :
      (drives : Bay → DriveModel) → (drives Winchester1).ready ≡ true → (drives Winchester1).protected ≡ false
      → status (runs (made drives) (Turn ∷ [])) ≡ Ok 0x50
  pub no_drive_selected : (drives : Bay → DriveModel) → status (runs (made drives) (Turn ∷ Write 6 0x08 ∷ [])) ≡ Ok 0x00
  -- Restore from cylinder 3 ends on the fourth turn
  pub restore_busy : status (after (example_drive 0 3 [] undamaged) (Write 7 0x10 ∷ so_many 3 Turn)) ≡ Ok 0x80
  pub restore_ends : status (after (example_drive 0 3 [] undamaged) (Write 7 0x10 ∷ so_many 4 Turn)) ≡ Ok 0x50
  -- Restore makes 1,024 steps at most: from so far out it ends well, and from one cylinder further with track 000; a drive has
  -- fewer cylinders, so only the definitions come there
  pub restore_from_afar : status (after (example_drive 0 1024 [] undamaged) (Write 7 0x10 ∷ so_many 1025 Turn)) ≡ Ok 0x50
  pub restore_gives_up : read_answered (after (example_drive 0 1025 [] undamaged) (Write 7 0x10 ∷ so_many 1025 Turn)) 1 ≡ Ok 0x02
  -- count 0 and number 255 become 255 and 0 after one sector of a multiple read
  pub count_goes_down : read_answered (after (example_drive 0 0 (zero_sector crc_code 255 ∷ []) undamaged) (Write 3 255 ∷ Write 6 0x60 ∷ Write 7 0x24 ∷ Turn ∷ [])) 2 ≡ Ok 255
  pub number_goes_up : read_answered (after (example_drive 0 0 (zero_sector crc_code 255 ∷ []) undamaged) (Write 3 255 ∷ Write 6 0x60 ∷ Write 7 0x24 ∷ Turn ∷ [])) 3 ≡ Ok 0
  -- eight no IDs and then an intact attempt read clean; nine leave error 10h
  pub eight_no_ids : status (after (example_drive 0 0 (zero_sector crc_code 0 ∷ []) (hidden 8)) (read_crc 9)) ≡ Ok 0x58
  pub nine_no_ids : read_answered (after (example_drive 0 0 (zero_sector crc_code 0 ∷ []) (hidden 9)) (read_crc 9)) 1 ≡ Ok 0x10
  -- no ID, and then under ECC the same burst twice, leaves status 5Ch after the third attempt
  pub corrected_on_the_third : status (after (example_drive 0 0 (zero_sector ecc_code 0 ∷ []) burst_after_no_id) (read_ecc 3)) ≡ Ok 0x5c
  -- Format of 64 sectors of 128 bytes runs at T = 8,192, and is aborted at T = 8,064 with status 51h
  pub format_runs : status (after (example_drive 8192 0 [] undamaged) (format_64 ++ so_many 128 (Write 0 0) ++ (Turn ∷ []))) ≡ Ok 0x50
  pub format_aborted : status (after (example_drive 8064 0 [] undamaged) format_64) ≡ Ok 0x51
