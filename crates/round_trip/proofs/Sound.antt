-- Drives whose head stands on a cylinder and whose sectors have their length, and that every call keeps them so.
use Rattle.std.proofs.Common.{All, ◌≡◌, ℕ, ◌<◌, ◌≤◌, Bool, ◌&&◌, eqb, List, length, get_or, take, set, Some, None, Option, sym, refl, ap, ◌∙◌, subst, inl, inr, arith, length-set, get_or-set_other, get_or-set_same}
use lib.ListN.{length-replicate}
use Rattle.std.proofs.lemmas.List.{length-take-le}
use Rattle.std.proofs.lemmas.Bool.Decides.{nat_tests}
use Rattle.std.proofs.lemmas.Grind.{common_steps}
use Rattle.std.proofs.lemmas.Bool.{cond_both}
use Rattle.sector.specs.declared.size.SizeCode.{SizeCode}
use Rattle.sector.specs.Sizes.{bytes_of}
use Rattle.sector.specs.Bits.{BitSet}
use Rattle.sector.proofs.Sizes.{bytes_most}
use Rattle.sector.proofs.Inverted.{length-inverted}
use Rattle.drive.specs.declared.buffer.SectorBuffer.{SectorBuffer}
use Rattle.drive.specs.declared.answers.SectorId.{SectorId}
use Rattle.drive.specs.Model.{Sector, no_sector, slot_of, blank_track, Showing, no_id, no_data_mark, wrong_bits, DriveModel, with_track, replaced, track}
use Rattle.drive.specs.Bounds.{Whole, ADrive}
use Rattle.drive.specs.Calls.{nearer, on_slot, track_under, shown, attempted, delivered, attempted_at, stepped_in, stepped_out, handed_over, after_read, written, after_write, after_format}
use Rattle.drive.proofs.Meant.{meant_at}
use Rattle.round_trip.proofs.Tracks.{blank_at}
use Rattle.round_trip.proofs.Attempts as attempt

-- a sector has as many bytes as its size code says, and four check bytes
abbrev pub Sized : Sector → Type 0
Sized s = (length s.bytes ≡ bytes_of s.size) × (length s.check ≡ 4)

abbrev pub SizedTrack : List Sector → Type 0
SizedTrack ss = (k : ℕ) → k < length ss → Sized (get_or ss k no_sector)

pub record Sound (d : DriveModel) : Type 0 where
  pub inside : d.cylinder < d.geometry.cylinders
  pub few : d.geometry.cylinders ≤ 1024
  pub sized : (c h : ℕ) → SizedTrack (d.track c h)

pub record Buffered (b : SectorBuffer) : Type 0 where
  pub bytes_long : length b.bytes ≡ 1024
  pub check_long : length b.check ≡ 4

-- ---- at the making
all_at : (ss : List Sector) → All Whole ss → SizedTrack ss
all_at ss whole k h = let w : Whole (get_or ss k no_sector) = whole k no_sector h in (w.bytes_long, w.check_long)

pub sound_drive : (d : DriveModel) → ADrive d → Sound d
sound_drive d a = record { inside = a.inside; few = a.few_cylinders; sized = λ c h. all_at (d.track c h) (a.whole_sectors c h) }

-- ---- steps and outlooks
pub sound_out : (d : DriveModel) → Sound d → Sound (stepped_out d)
unfolding stepped_out
sound_out d s = record { inside = grind arith; few = grind arith; sized = λ c h k here. (grind (arith, s.sized), grind (arith, s.sized)) }

pub sound_nearer : (d : DriveModel) (goal : ℕ) → Sound d → Sound (nearer d goal)
unfolding stepped_in stepped_out
sound_nearer d goal s = record { inside = grind (arith, nat_tests); few = grind arith; sized = λ c h k here. (grind (arith, s.sized), grind (arith, s.sized)) }

pub sound_attempted : (d : DriveModel) (head number : ℕ) → Sound d → Sound (attempted_at d head number)
sound_attempted d head number s = record { inside = s.inside; few = s.few; sized = s.sized }

pub sound_read : (d : DriveModel) (head number : ℕ) → Sound d → Sound (after_read d head number)
unfolding after_read
sound_read d head number s = cond_both d.ready _ d Sound (λ _. sound_attempted d head number s) (λ _. s)

-- ---- writes and formats
sized_set : (ss : List Sector) (k : ℕ) (y : Sector) → k < length ss → Sized y → SizedTrack ss → SizedTrack (set ss k y)
sized_set ss k y here sy all j h =
    (grind (arith, length-set {A = Sector}, get_or-set_same, get_or-set_other, all j), grind (arith, length-set {A = Sector}, get_or-set_same, get_or-set_other, all j))

sized_replaced : (tracks : ℕ → ℕ → List Sector) (cylinder head : ℕ) (new : List Sector) → ((c h : ℕ) → SizedTrack (tracks c h)) → SizedTrack new → (c h : ℕ) → SizedTrack (replaced tracks cylinder head new c h)
sized_replaced tracks cylinder head new all fresh c h = cond_both (eqb c cylinder && eqb h head) new (tracks c h) SizedTrack (λ _. fresh) (λ _. all c h)

pub sound_written : (d : DriveModel) (head number : ℕ) (size : SizeCode) (b : SectorBuffer) (k : ℕ) → slot_of (track_under d head) number size ≡ Some k → Buffered b → Sound d → Sound (written (attempted_at d head number) head size b k)
sound_written d head number size b k slot f s =
    let m = meant_at (track_under d head) number size k slot in
    let few : bytes_of size ≤ length b.bytes = omega (arith, bytes_most size, f.bytes_long) in
    let long : length (take (bytes_of size) b.bytes) ≡ bytes_of (get_or (track_under d head) k no_sector).size =
    length-take-le (bytes_of size) b.bytes few ∙ ap bytes_of (sym m.2) in
    record {
      inside = s.inside;
      few = s.few;
      sized = sized_replaced d.track d.cylinder head _ s.sized (sized_set (track_under d head) k _ m.0 (long, f.check_long) (s.sized d.cylinder head));
    }

pub sound_formatted : (d : DriveModel) (head : ℕ) (ids : List SectorId) (size : SizeCode) (check : List ℕ) → length check ≡ 4 → Sound d → Sound (with_track d head (blank_track ids size check) (track d.cylinder head ids size check))
sound_formatted d head ids size check four s =
    record {
      inside = s.inside;
      few = s.few;
      sized = sized_replaced d.track d.cylinder head _ s.sized (λ k h.
          let z = blank_at ids size check k h in
          (ap length z.0 ∙ length-replicate (bytes_of size) 0 ∙ ap bytes_of (sym z.2), ap length z.1 ∙ four));
    }

pub sound_write : (d : DriveModel) (head number : ℕ) (size : SizeCode) (b : SectorBuffer) → Buffered b → Sound d → Sound (after_write d head number size b)
sound_write d head number size b f s = by_attempt (attempt.wrote d head number size b)
  where
    by_attempt : {a : _} {e : DriveModel} → attempt.Wrote d head number size b a e → Sound e
    by_attempt (attempt.replaced k slot done is) = subst Sound (sym is) (sound_written d head number size b k slot f s)
    by_attempt (attempt.kept not_done (inl is)) = subst Sound (sym is) s
    by_attempt (attempt.kept not_done (inr is)) = subst Sound (sym is) (sound_attempted d head number s)

pub sound_format : (d : DriveModel) (head : ℕ) (ids : List SectorId) (size : SizeCode) (check : List ℕ) → length check ≡ 4 → Sound d → Sound (after_format d head ids size check)
sound_format d head ids size check four s = by_format (attempt.formats d head ids size check)
  where
    by_format : {done : Bool} {e : DriveModel} → attempt.Formats d head ids size check done e → Sound e
    by_format (attempt.laid done is) = subst Sound (sym is) (sound_formatted d head ids size check four s)
    by_format (attempt.refused done is) = subst Sound (sym is) s

-- ---- the buffer
-- a delivered sector fills the front of the buffer
pub delivered_buffered : (w : BitSet) (s : Sector) (b : SectorBuffer) → Sized s → Buffered b → Buffered (delivered (wrong_bits w) s b)
delivered_buffered w s b z f = record { bytes_long = grind (arith, common_steps, length-inverted, bytes_most); check_long = grind (arith, length-inverted) }

slot_buffered : (d : DriveModel) (head number : ℕ) (size : SizeCode) (sh : Showing) (b : SectorBuffer) → Sound d → Buffered b → (o : Option ℕ) → slot_of (track_under d head) number size ≡ o
    → Buffered (on_slot o (track_under d head) b b (λ k. delivered sh (get_or (track_under d head) k no_sector) b))
slot_buffered d head number size sh b s f None e = f
slot_buffered d head number size sh b s f (Some k) e =
    let here = (meant_at (track_under d head) number size k e).0 in
    cond_both (get_or (track_under d head) k no_sector).bad b (delivered sh (get_or (track_under d head) k no_sector) b) Buffered
    (λ _. f) (λ _. by_showing sh (s.sized d.cylinder head k here))
  where
    by_showing : (x : Showing) → Sized (get_or (track_under d head) k no_sector) → Buffered (delivered x (get_or (track_under d head) k no_sector) b)
    by_showing no_id z = f
    by_showing no_data_mark z = f
    by_showing (wrong_bits w) z = delivered_buffered w (get_or (track_under d head) k no_sector) b z f

shown_buffered : (d : DriveModel) (head number : ℕ) (size : SizeCode) (sh : Showing) (b : SectorBuffer) → Sound d → Buffered b
    → Buffered (attempted sh (track_under d head) number size b b (λ k. delivered sh (get_or (track_under d head) k no_sector) b))
shown_buffered d head number size no_id b s f = f
shown_buffered d head number size no_data_mark b s f = slot_buffered d head number size no_data_mark b s f (slot_of (track_under d head) number size) refl
shown_buffered d head number size (wrong_bits w) b s f = slot_buffered d head number size (wrong_bits w) b s f (slot_of (track_under d head) number size) refl

-- whatever a read attempt hands over
pub handed_buffered : (d : DriveModel) (head number : ℕ) (size : SizeCode) (b : SectorBuffer) → Sound d → Buffered b → Buffered (handed_over d head number size b)
unfolding handed_over
handed_buffered d head number size b s f =
    cond_both d.ready _ b Buffered (λ _. shown_buffered d head number size (shown d head number) b s f) (λ _. f)
