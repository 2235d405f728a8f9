-- An example in which the premises of the laws are met: a sheet is written to a sector, and read back through damage.
use Rattle.std.specs.Prelude.{◌≡◌, ℕ, zero, suc, true, false, cond, List, [], ◌∷◌, ◌++◌, map, replicate, Some, ◌==◌, slice_index}
use Rattle.sector.specs.declared.size.SizeCode.TheVariants.{Bytes128}
use Rattle.sector.specs.Bits.{marked}
use Rattle.check_code.specs.declared.mode.CheckMode.TheVariants.{Ecc}
use Rattle.drive.specs.Model.{Showing, no_id, wrong_bits}
use Rattle.task_file.specs.declared.bay.Bay.TheVariants.{Winchester1}
use Rattle.task_file.specs.declared.command.Command.TheVariants.{Read}
use Rattle.task_file.specs.declared.command.ReadMode.{ReadMode}
use Rattle.controller.specs.Model.{ControllerModel, made}
use Rattle.controller.specs.declared.call.Call.{Call}
use Rattle.controller.specs.declared.call.Call.TheVariants as call
use Rattle.controller.specs.Runs.{byte_read, answer_to, called, runs, answers, IsNew}
use Rattle.histories.specs.Examples.{example_drive, in_winchester_1}
use Rattle.round_trip.specs.Events.{busy, error, accepts, drq_comes_on, busy_comes_on, SectorName}
use Rattle.round_trip.specs.Ledger.{Writing, notes_of}
use Rattle.round_trip.specs.Laws.{PlainRead, StandsUnmarked, Readable, used_bits, outlook_at, BusyThroughout, DrqThroughout, drawn_in}

-- ---- the drives
-- what the attempts at each place show: a burst of three wrong bits, then no ID, and from there on that burst again
abbrev pub shows : ℕ → Showing
shows k = cond (k == 1) no_id (wrong_bits (marked 1 0b1_0011))

-- a Winchester without sectors, with room for 8,192 bytes on a track, and undamaged drives beside it
abbrev pub new : ControllerModel
new = made (in_winchester_1 (example_drive 8192 0 [] shows))

-- ---- the sheet and its sector
-- the numbers below n, from the largest down
abbrev pub counted_down : ℕ → List ℕ
counted_down zero = []
counted_down (suc n) = n ∷ counted_down n

-- 128 bytes, no two alike
abbrev pub sheet : List ℕ
sheet = counted_down 128

-- the sector with number 5 and 128 bytes at cylinder 1, head 0
abbrev pub place : SectorName
place = record { track = record { bay = Winchester1; cylinder = 1; head = 0 }; number = 5; size = Bytes128 }

-- what is written there, by a plain write under ECC
abbrev pub writing : Writing
writing = record { bytes = sheet; mode = Ecc; plain = true }

-- ---- the calls
-- a turn ends Test; then the registers name the sector, under ECC, and its track is formatted with it alone, after one step
abbrev pub formatting : List Call
formatting =
    call.Turn ∷ call.Write 2 1 ∷ call.Write 3 5 ∷ call.Write 4 1 ∷ call.Write 6 0xe0 ∷ call.Write 7 0x50
    ∷ call.Write 0 0 ∷ call.Write 0 5 ∷ replicate 126 (call.Write 0 0) ++ (call.Turn ∷ call.Turn ∷ [])

-- the sheet is written to it, by the first attempt at its place: a write does not mind wrong bits
abbrev pub before : List Call
before = formatting ++ (call.Write 7 0x30 ∷ map (call.Write 0) sheet ++ (call.Turn ∷ []))

-- a plain Read of one sector
abbrev pub reading : Call
reading = call.Write 7 0x20

-- its bits: D, M and L are 0
abbrev pub mode : ReadMode
mode = record { dma = false; multiple = false; long = false }

-- an attempt without an ID, and one with the burst; the next one, with the burst again, raises DRQ
abbrev pub waiting : List Call
waiting = call.Turn ∷ call.Turn ∷ []

-- every byte is drawn but the last
abbrev pub drawing : List Call
drawing = replicate 127 (call.Read 0)

-- ---- where they lead
abbrev pub started : ControllerModel
started = runs new (before ++ (reading ∷ []))

-- the turn that raises DRQ is made
abbrev pub offered : ControllerModel
offered = called (runs started waiting) call.Turn

-- The premises of the laws, at these drives and calls.
pub record PremisesMet : Type 0 where
  -- of the theorem: the controller is new
  pub is_new : IsNew new
  -- of same bytes: BUSY comes on for a plain read of the sector, of which the sheet is the last writing, and stays on until a
  -- turn raises DRQ; DRQ stays on until the last byte is to be drawn, with Error off
  pub busy_on : busy_comes_on (runs new before) reading ≡ true
  pub plain_read : PlainRead started (notes_of new (before ++ (reading ∷ []))) mode place writing
  pub waits : BusyThroughout started waiting
  pub raises : drq_comes_on (runs started waiting) call.Turn ≡ true
  pub asks : DrqThroughout offered drawing
  pub no_error : error (runs offered drawing) ≡ false
  -- of every request: the read is in force at that turn
  pub in_force : (notes_of new (before ++ (reading ∷ waiting ++ (call.Turn ∷ [])))).in_force ≡ Some (Read mode)
  -- of clean exactly when: the Read is accepted and not aborted, and is of one sector
  pub accepted : accepts (runs new before) reading ≡ true
  pub not_aborted : busy started ≡ true
  pub single : mode.multiple ≡ false
  -- the sector stands unmarked on its track, and is readable by two neighbours that show the same burst
  pub stands : StandsUnmarked started place
  pub readable : Readable Ecc (used_bits Ecc place) (outlook_at started place)

-- What is read there is the sheet.
pub record SheetReadBack : Type 0 where
  -- by the law of same bytes, the last byte
  pub last_byte : answer_to (runs offered drawing) (call.Read 0) ≡ byte_read (slice_index sheet (drawn_in offered drawing))
  -- by the law of clean reads, DRQ comes on with Error off
  pub clean : error offered ≡ false
  -- and, as the definitions compute it, every byte
  pub script : answers offered (replicate 128 (call.Read 0)) ≡ map byte_read sheet
