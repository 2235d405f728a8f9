-- What a drive is: its measures, its tracks, the outlook of its places and the memory behind them.
use Rattle.std.specs.Prelude.{ℕ, ◌+◌, Bool, false, cond, ◌&&◌, List, [], map, replicate, Option, ◌==◌}
use Rattle.std.specs.List.{position_from}
use Rattle.sector.specs.Bits.{BitSet}
use Rattle.sector.specs.Sizes.{bytes_of, number_of}
use Rattle.sector.specs.declared.size.SizeCode.{SizeCode}
use Rattle.sector.specs.declared.size.SizeCode.TheVariants.{Bytes128}
use Rattle.drive.specs.declared.answers.SectorId.{SectorId}
use Rattle.drive.specs.declared.geometry.Geometry.{Geometry}

-- ---- a track
-- a sector on a track: its ID, with the bad mark, its bytes and its four check bytes
pub record Sector : Type 0 where
  pub number : ℕ
  pub size : SizeCode
  pub bad : Bool
  pub bytes : List ℕ
  pub check : List ℕ

-- stands for the sector at a slot that a track has not
abbrev pub no_sector : Sector
no_sector = record { number = 0; size = Bytes128; bad = false; bytes = []; check = [] }

-- a sector is meant by its number and its size code
abbrev pub is_meant : ℕ → SizeCode → Sector → Bool
is_meant number size s = s.number == number && number_of s.size == number_of size

-- the slot of the sector meant: the first with that number and size code
abbrev pub slot_of : List Sector → ℕ → SizeCode → Option ℕ
slot_of track number size = position_from (is_meant number size) 0 track

-- a sector with other bytes and check bytes
abbrev pub rewritten : Sector → List ℕ → List ℕ → Sector
rewritten s bytes check = record s { bytes = bytes; check = check }

-- a sector as a format lays it down, with zero bytes
abbrev pub blank_sector : SizeCode → List ℕ → SectorId → Sector
blank_sector size check id =
    record { number = id.number; size = size; bad = id.bad; bytes = replicate (bytes_of size) 0; check = check }

-- a track as a format lays it down
abbrev pub blank_track : List SectorId → SizeCode → List ℕ → List Sector
blank_track ids size check = map (blank_sector size check) ids

-- ---- what an attempt shows
-- What an attempt at a place will show: no ID, no data mark, or a set of wrong bits.
pub data Showing : Type 0 where
  no_id : Showing
  no_data_mark : Showing
  wrong_bits : BitSet → Showing

-- no damage
abbrev pub intact : Showing
intact = wrong_bits (λ i. false)

-- what each coming attempt at a place will show: cylinder, head, sector number, and how many attempts come before it
abbrev pub Outlook : Type 0
Outlook = ℕ → ℕ → ℕ → ℕ → Showing

-- the outlook once the first entry of one place is used up
abbrev pub used_up : Outlook → ℕ → ℕ → ℕ → Outlook
used_up o cylinder head number c h n k =
    cond (c == cylinder && (h == head && n == number)) (o c h n (k + 1)) (o c h n k)

-- ---- the memory behind the tracks
-- What a done write or format puts on a track, which it names by cylinder and head.
pub data Change : Type 0 where
  -- cylinder, head and slot of the sector, its new bytes and check bytes
  sector : ℕ → ℕ → ℕ → List ℕ → List ℕ → Change
  -- cylinder and head, the new sectors' IDs, their size code and check bytes
  track : ℕ → ℕ → List SectorId → SizeCode → List ℕ → Change

-- how a make lays a change into its memory
abbrev pub Layout : Type 0
Layout = Change → List ℕ → List ℕ

-- ---- a drive
-- A drive. Its measures, readiness, protection and layout never change. A track is named by cylinder and head.
pub record DriveModel : Type 0 where
  pub geometry : Geometry
  pub ready : Bool
  pub protected : Bool
  pub cylinder : ℕ
  pub track : ℕ → ℕ → List Sector
  pub outlook : Outlook
  pub memory : List ℕ
  pub layout : Layout

-- the tracks with one of them replaced
abbrev pub replaced : (ℕ → ℕ → List Sector) → ℕ → ℕ → List Sector → ℕ → ℕ → List Sector
replaced tracks cylinder head new c h = cond (c == cylinder && h == head) new (tracks c h)

-- the drive with a track under its head replaced, and the change that did it laid into the memory
abbrev pub with_track : DriveModel → ℕ → List Sector → Change → DriveModel
with_track d head new change =
    record d { track = replaced d.track d.cylinder head new; memory = d.layout change d.memory }
