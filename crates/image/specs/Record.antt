-- A track record: a count, a size code, 64 pairs of number and mark, 64 times four check bytes, and the sectors' bytes, in order.
-- So pair i stands at 2 + 2 i, check bytes i at 130 + 4 i, and the bytes of sector i at 386 + i times the size.
use Rattle.std.specs.Prelude.{◌≡◌, ℕ, ◌+◌, ◌-◌, ◌*◌, ◌<◌, ◌≤◌, Bool, true, cond, ◌&&◌, ◌||◌, List, [], ◌∷◌, map, length, replicate, ◌==◌, nat_le, slice_index}
use Rattle.std.specs.List.{list_all, range_with_len, flat_map}
use Rattle.sector.specs.Sizes.{bytes_of, number_of, size_numbered}
use Rattle.sector.specs.declared.size.SizeCode.{SizeCode}
use Rattle.drive.specs.declared.answers.SectorId.{SectorId}
use Rattle.drive.specs.Model.{Sector}
use Rattle.image.specs.Parts.{part, over}

-- ---- what a record says
-- how many sectors it has
abbrev pub count_in : List ℕ → ℕ
count_in r = slice_index r 0

-- their size code, by its number
abbrev pub code_in : List ℕ → ℕ
code_in r = slice_index r 1

-- the size of its sectors
abbrev pub size_in : List ℕ → SizeCode
size_in r = size_numbered (code_in r)

-- the number of sector i
abbrev pub number_at : List ℕ → ℕ → ℕ
number_at r i = slice_index r (2 + 2 * i)

-- the mark of sector i
abbrev pub mark_at : List ℕ → ℕ → ℕ
mark_at r i = slice_index r (3 + 2 * i)

-- the pairs of number and mark of its sectors
abbrev pub pairs_in : List ℕ → List (List ℕ)
pairs_in r = map (λ i. number_at r i ∷ mark_at r i ∷ []) (range_with_len 0 (count_in r))

-- a pair with this number
abbrev pub is_named : ℕ → List ℕ → Bool
is_named number pair = slice_index pair 0 == number

-- a mark of 80h is bad, and 0 is good
abbrev pub bad_mark : ℕ
bad_mark = 128

-- a pair whose mark is one
abbrev pub is_marked : List ℕ → Bool
is_marked pair = slice_index pair 1 == 0 || slice_index pair 1 == bad_mark

-- a record with a count from 1 to 64, a size code, room for so many sectors, and nothing but marks where marks are used
abbrev pub formatted : List ℕ → Bool
formatted r =
    (nat_le 1 (count_in r) && nat_le (count_in r) 64)
    && (nat_le (code_in r) 3 && (nat_le (count_in r * bytes_of (size_in r)) (length r - 386) && list_all is_marked (pairs_in r)))

-- sector i
abbrev pub sector_at : List ℕ → ℕ → Sector
sector_at r i =
    record {
      number = number_at r i;
      size = size_in r;
      bad = (mark_at r i == bad_mark);
      bytes = part (386 + i * bytes_of (size_in r)) (bytes_of (size_in r)) r;
      check = part (130 + 4 * i) 4 r;
    }

-- its sectors, in their order
abbrev pub sectors_in : List ℕ → List Sector
sectors_in r = map (sector_at r) (range_with_len 0 (count_in r))

-- the track that a record holds: one that is not formatted has no sectors
abbrev pub track_in : List ℕ → List Sector
track_in r = cond (formatted r) (sectors_in r) []

-- a slot of a formatted record whose sectors have this size
pub record Slot (r : List ℕ) (size : SizeCode) (k : ℕ) : Type 0 where
  pub whole : formatted r ≡ true
  pub below : k < count_in r
  pub few : count_in r ≤ 64
  pub same_size : size_in r ≡ size
  pub room : 386 + count_in r * bytes_of size ≤ length r

-- ---- what a change makes of a record
-- the record with other bytes and check bytes in slot k
abbrev pub with_sector : ℕ → List ℕ → List ℕ → List ℕ → List ℕ
with_sector k bytes check r = over (130 + 4 * k) check (over (386 + k * length bytes) bytes r)

-- the pair of an ID
abbrev pub pair_of : SectorId → List ℕ
pair_of id = id.number ∷ cond id.bad bad_mark 0 ∷ []

-- the record after a format: its count, its size code, and the pairs, check bytes and bytes of its sectors are new
abbrev pub with_format : List SectorId → SizeCode → List ℕ → List ℕ → List ℕ
with_format ids size check r =
    over 386 (replicate (length ids * bytes_of size) 0)
    (over 130 (flat_map (λ _. check) ids) (over 0 (length ids ∷ number_of size ∷ flat_map pair_of ids) r))
