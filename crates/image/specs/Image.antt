-- How an image's memory holds its tracks, a record for each, cylinder by cylinder and head by head; and which image is refused.
use Rattle.std.specs.Prelude.{◌≡◌, ℕ, ◌+◌, ◌*◌, ◌%◌, ◌≤◌, min, Bool, true, cond, ◌&&◌, List, [], Some, None, Option, Ok, Err, Result, ◌==◌, nat_le, nat_lt}
use Rattle.either.specs.declared.Either.{Either}
use Rattle.either.specs.declared.Either.TheVariants.{Left, Right}
use Rattle.drive.specs.Asking.{unless}
use Rattle.drive.specs.Model.{Sector, intact, sector, track, Layout, DriveModel}
use Rattle.drive.specs.Bounds.{Measures}
use Rattle.drive.specs.Empty.{keeping}
use Rattle.drive.specs.declared.geometry.Geometry.{Geometry}
use Rattle.drive.specs.declared.empty.EmptyBay.{EmptyBay}
use Rattle.image.specs.declared.refusal.Refusal.{Refusal}
use Rattle.image.specs.declared.refusal.Refusal.TheVariants.{Cylinders, Heads, Capacity, Memory}
use Rattle.image.specs.declared.refusal.Refused.{Refused}
use Rattle.image.specs.Parts.{part, over}
use Rattle.image.specs.Record.{track_in, with_sector, with_format}

-- where the record of a track starts
abbrev pub record_start : Geometry → ℕ → ℕ → ℕ
record_start g cylinder head = (cylinder * g.heads + head) * (386 + g.capacity)

-- the record of a track
abbrev pub record_of : Geometry → ℕ → ℕ → List ℕ → List ℕ
record_of g cylinder head memory = part (record_start g cylinder head) (386 + g.capacity) memory

-- the tracks, by cylinder and head
abbrev pub tracks_of : Geometry → List ℕ → ℕ → ℕ → List Sector
tracks_of g memory c h = cond (nat_lt c g.cylinders && nat_lt h g.heads) (track_in (record_of g c h memory)) []

-- a change goes into the record of its track, and nowhere else
abbrev pub image_layout : Geometry → Layout
image_layout g (sector c h k bytes check) memory = over (record_start g c h) (with_sector k bytes check (record_of g c h memory)) memory
image_layout g (track c h ids size check) memory = over (record_start g c h) (with_format ids size check (record_of g c h memory)) memory

-- an undamaged image with these measures, over this memory
abbrev pub image_model : Geometry → Bool → ℕ → List ℕ → DriveModel
image_model g protected cylinder memory =
    record {
      geometry = g;
      ready = true;
      protected = protected;
      cylinder = cylinder;
      track = tracks_of g memory;
      outlook = λ _ _ _ _. intact;
      memory = memory;
      layout = image_layout g;
    }

-- how many bytes an image of these measures asks for; more room than a track can have counts as the most
abbrev pub memory_length : Geometry → ℕ
memory_length g = (g.cylinders * g.heads) * (386 + min g.capacity 65536)

-- ---- refusals
-- what an image of a make with these limits has for measures and for the length of its memory
pub record Admissible (most : Measures) (g : Geometry) (length : ℕ) : Type 0 where
  pub some_cylinder : 1 ≤ g.cylinders
  pub few_cylinders : g.cylinders ≤ most.cylinders
  pub some_head : 1 ≤ g.heads
  pub few_heads : g.heads ≤ most.heads
  pub small : g.capacity ≤ 65536
  pub whole : length ≡ memory_length g

-- What stands against an image of a make with these limits, if anything does: its cylinders, its heads, its capacity, which is a
-- multiple of 128 from 128 to 65,536, and the length of its memory, asked in this order.
abbrev pub refusal_of : Measures → Geometry → ℕ → Option Refusal
refusal_of most g length =
    unless (nat_le 1 g.cylinders && nat_le g.cylinders most.cylinders) (Some Cylinders)
    (unless (nat_le 1 g.heads && nat_le g.heads most.heads) (Some Heads)
    (unless (nat_le 128 g.capacity && (nat_le g.capacity 65536 && g.capacity % 128 == 0)) (Some Capacity)
    (unless (length == memory_length g) (Some Memory)
    None)))

-- the refusals by number
abbrev pub refusal_number : Refusal → ℕ
refusal_number Cylinders = 6
refusal_number Heads = 7
refusal_number Capacity = 8
refusal_number Memory = 9

-- the image that was made, or a bay without a drive, with the memory that came for one
abbrev pub bay_of : {D : Type 0} → Result D Refused → Either D EmptyBay
bay_of (Ok d) = Left d
bay_of (Err e) = Right (keeping e.memory)
