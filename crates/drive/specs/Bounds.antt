-- What holds of every drive.
use Rattle.std.specs.Prelude.{All, ◌≡◌, ℕ, ◌<◌, ◌≤◌, List, [], length, slice_index}
use Rattle.sector.specs.Sizes.{bytes_of}
use Rattle.drive.specs.Model.{Sector, DriveModel}

-- the most cylinders and the most heads that drives of a make have
pub record Measures : Type 0 where
  pub cylinders : ℕ
  pub heads : ℕ

-- so many cylinders and so many heads
abbrev pub measures : ℕ → ℕ → Measures
measures cylinders heads = record { cylinders = cylinders; heads = heads }

-- what holds of a make's own most
pub record Limits (most : Measures) : Type 0 where
  pub some_cylinder : 1 ≤ most.cylinders
  pub few_cylinders : most.cylinders ≤ 1024
  pub some_head : 1 ≤ most.heads
  pub few_heads : most.heads ≤ 8

-- nothing but bytes
abbrev pub Bytes : List ℕ → Type 0
Bytes xs = (i : ℕ) → slice_index xs i < 256

-- a sector's number is a byte, it has as many bytes as its size code says, and four check bytes
pub record Whole (s : Sector) : Type 0 where
  pub numbered : s.number < 256
  pub bytes_long : length s.bytes ≡ bytes_of s.size
  pub bytes_are : Bytes s.bytes
  pub check_long : length s.check ≡ 4
  pub check_are : Bytes s.check

-- what holds of a drive of such a make
pub record Bounded (most : Measures) (d : DriveModel) : Type 0 where
  pub some_cylinder : 1 ≤ d.geometry.cylinders
  pub few_cylinders : d.geometry.cylinders ≤ most.cylinders
  pub some_head : 1 ≤ d.geometry.heads
  pub few_heads : d.geometry.heads ≤ most.heads
  pub inside : d.cylinder < d.geometry.cylinders
  pub few_sectors : (c h : ℕ) → length (d.track c h) ≤ 64
  pub whole_sectors : (c h : ℕ) → All Whole (d.track c h)
  pub past_cylinders : (c h : ℕ) → d.geometry.cylinders ≤ c → d.track c h ≡ []
  pub past_heads : (c h : ℕ) → d.geometry.heads ≤ h → d.track c h ≡ []

-- A drive with the meaning of a drive: 1 to 1,024 cylinders and 1 to 8 heads, its head on one of the cylinders, on each
-- track at most 64 sectors, each of them whole, and no sector elsewhere.
abbrev pub ADrive : DriveModel → Type 0
ADrive = Bounded (measures 1024 8)
