-- Where records lie on a drive.
use Rattle.std.specs.Prelude.{◌≡◌, ℕ, ◌*◌, ◌/◌, ◌%◌, min, cond, List, map, Some, None, Option, nat_lt}
use Rattle.std.specs.List.{range_with_len}
use Rattle.drive.specs.declared.geometry.Geometry.{Geometry}
use Rattle.records.specs.declared.places.Grid.{Grid}
use Rattle.drive.specs.declared.place.Place.{Place}

-- the grid of a drive: as many records on each track as it has room for, at most 64
abbrev pub grid_of : Geometry → Grid
grid_of g = record { cylinders = g.cylinders; heads = g.heads; sectors = min (g.capacity / 512) 64 }

-- how many records a drive holds
abbrev pub records_in : Grid → ℕ
records_in g = g.cylinders * (g.heads * g.sectors)

-- Record r is sector r mod S of head (r / S) mod H at cylinder r / (S × H); past the last record there is none.
abbrev pub place_of : Grid → ℕ → Option Place
place_of g r =
    cond (nat_lt r (records_in g))
    (Some (record { cylinder = r / (g.heads * g.sectors); head = r / g.sectors % g.heads; number = r % g.sectors })) None

-- the places of the first n records, in order
abbrev pub ArePlaces : Grid → ℕ → List Place → Type 0
ArePlaces g n ps = map Some ps ≡ map (place_of g) (range_with_len 0 n)
