-- What holds of every image.
use Rattle.std.specs.Prelude.{All, ◌≡◌, ℕ, ◌+◌, ◌-◌, ◌*◌, ◌<◌, ◌≤◌, true, List, [], length}
use Rattle.std.proofs.Common.{sym, subst, arith}
use Rattle.std.proofs.lemmas.Nat.{row_fits}
use Rattle.std.proofs.lemmas.List.FromFn.{get_or-map-range_with_len, length-map-range_with_len}
use Rattle.std.proofs.lemmas.List.Elements.{All-from_get_or, All-nil}
use Rattle.std.proofs.lemmas.List.{places, length-take, length-drop}
use Rattle.std.proofs.lemmas.Bool.{cond_both, cond-false, and_left, and_right, le-ltb}
use Rattle.std.proofs.lemmas.Bool.Decides.{nat_tests}
use Rattle.sector.specs.Sizes.{bytes_of}
use Rattle.sector.proofs.Sizes.{bytes_least}
use Rattle.drive.specs.Model.{Sector, no_sector}
use Rattle.drive.specs.Bounds.{measures, Bytes, Whole, Bounded}
use Rattle.image.specs.declared.make.Make.{Ghosts}
use Rattle.image.specs.declared.image.Image.{Image}
use Rattle.image.specs.Parts.{part}
use Rattle.image.specs.Record.{count_in, size_in, formatted, sector_at, sectors_in, track_in}
use Rattle.image.specs.Image.{record_of, tracks_of}
use Rattle.image.specs.Meaning.{model_of}

-- ---- parts
pub length_part : (a n : ℕ) (xs : List ℕ) → a + n ≤ length xs → length (part a n xs) ≡ n
length_part a n xs h = simp (length-take, length-drop) (omega arith)

bytes_part : (a n : ℕ) (xs : List ℕ) → Bytes xs → Bytes (part a n xs)
bytes_part a n xs b i = grind (arith, places, b)

-- ---- a formatted record
-- its sectors are few and fit in it
pub sectors_fit : (r : List ℕ) → formatted r ≡ true → (count_in r ≤ 64) × (count_in r * bytes_of (size_in r) ≤ length r - 386)
sectors_fit r e = (grind (arith, nat_tests), grind (arith, nat_tests))

-- each sector of it
sector_whole : (r : List ℕ) (i : ℕ) → Bytes r → formatted r ≡ true → i < count_in r → Whole (sector_at r i)
sector_whole r i b e h =
    let f = sectors_fit r e in
    let z : ℕ = bytes_of (size_in r) in
    record {
      numbered = b (2 + 2 * i);
      bytes_long = length_part (386 + i * z) z r (omega (arith, f.1, row_fits i z (count_in r) z h (omega arith), bytes_least (size_in r)));
      bytes_are = bytes_part (386 + i * z) z r b;
      check_long = length_part (130 + 4 * i) 4 r (omega (arith, f.0, f.1, row_fits i z (count_in r) z h (omega arith), bytes_least (size_in r)));
      check_are = bytes_part (130 + 4 * i) 4 r b;
    }

-- ---- tracks
-- at most 64 sectors, each of them whole
abbrev WholeTrack : List Sector → Type 0
WholeTrack ss = (length ss ≤ 64) × All Whole ss

-- so is a track without sectors
no_sectors_whole : WholeTrack []
no_sectors_whole = (omega arith, All-nil Whole)

-- the track of any record
track_whole : (r : List ℕ) → Bytes r → WholeTrack (track_in r)
track_whole r b =
    cond_both (formatted r) (sectors_in r) [] WholeTrack
    (λ e. (
      omega (arith, length-map-range_with_len (sector_at r) 0 (count_in r), (sectors_fit r e).0),
      All-from_get_or Whole (sectors_in r) no_sector
          (λ i h.
          let l : i < count_in r = omega (arith, length-map-range_with_len (sector_at r) 0 (count_in r)) in
          subst Whole (sym (get_or-map-range_with_len (sector_at r) 0 (count_in r) i i no_sector l (omega arith))) (sector_whole r i b e l)),
    ))
    (λ _. no_sectors_whole)

-- ---- the image
pub image_bounded : {M : Type 0} {g : Ghosts M} (s : Image M g) → Bounded (measures g.MOST_CYLINDERS g.MOST_HEADS) (model_of s)
image_bounded s =
    let m = s.geometry in
    let each : (c h : ℕ) → WholeTrack (tracks_of m s.memory.items c h) =
    λ c h. cond_both _ _ [] WholeTrack (λ _. track_whole (record_of m c h s.memory.items) (bytes_part _ _ s.memory.items s.bytes)) (λ _. no_sectors_whole) in
    record {
      some_cylinder = s.fits.some_cylinder;
      few_cylinders = s.fits.few_cylinders;
      some_head = s.fits.some_head;
      few_heads = s.fits.few_heads;
      inside = s.inside;
      few_sectors = λ c h. (each c h).0;
      whole_sectors = λ c h. (each c h).1;
      past_cylinders = λ c h l. cond-false _ _ _ (and_left _ _ (le-ltb c m.cylinders l));
      past_heads = λ c h l. cond-false _ _ _ (and_right _ _ (le-ltb h m.heads l));
    }
