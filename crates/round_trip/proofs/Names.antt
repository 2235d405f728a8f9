-- Names of tracks and sectors that pass the test for being the same are the same.
use Rattle.std.proofs.Common.{◌≡◌, true, false, arith}
use Rattle.std.proofs.lemmas.Bool.Decides.{nat_tests}
use Rattle.sector.specs.declared.size.SizeCode.{SizeCode}
use Rattle.round_trip.specs.Events.{TrackName, SectorName, same_track, same_size, same_sector}

pub same_track_is : (t u : TrackName) → same_track t u ≡ true → t ≡ u
same_track_is t u e = grind (arith, nat_tests)

pub same_track_self : (t : TrackName) → same_track t t ≡ true
same_track_self t = grind (arith, nat_tests)

pub same_size_is : (a b : SizeCode) → same_size a b ≡ true → a ≡ b
same_size_is a b e = grind (arith, nat_tests)

pub same_size_self : (a : SizeCode) → same_size a a ≡ true
same_size_self a = grind (arith, nat_tests)

pub same_sector_is : (s t : SectorName) → same_sector s t ≡ true → s ≡ t
same_sector_is s t e = grind (arith, nat_tests)

-- on one track, another name has another number or another size code
pub apart_on_track : (s t : SectorName) → same_sector s t ≡ false → same_track s.track t.track ≡ true → (t.number ≡ s.number) × (t.size ≡ s.size) → ⊥
apart_on_track s t e on both = grind (arith, nat_tests)
