-- The pairs of a format's bytes, both ways: bit 7 of a pair's first byte is the bad mark, the second is the number.
use Rattle.std.specs.Prelude.{ℕ, zero, suc, ◌+◌, ◌*◌, cond, List, [], ◌∷◌, ◌++◌, nat_le, slice_index}
use Rattle.drive.specs.declared.answers.SectorId.{SectorId}

-- the sector that pair i gives
abbrev pub id_at : List ℕ → ℕ → SectorId
id_at bytes i = record { number = slice_index bytes (2 * i + 1); bad = nat_le 128 (slice_index bytes (2 * i)) }

-- the first n of them
abbrev pub ids_of : List ℕ → ℕ → List SectorId
ids_of bytes zero = []
ids_of bytes (suc n) = ids_of bytes n ++ (id_at bytes n ∷ [])

-- the pair that gives a sector
abbrev pub format_pair : SectorId → List ℕ
format_pair id = cond id.bad 0x80 0 ∷ id.number ∷ []
