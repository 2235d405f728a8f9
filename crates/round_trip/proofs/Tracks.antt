-- Which sector stands at a place on a track, and that writing one moves no other.
use Rattle.std.proofs.Common.{◌≡◌, ℕ, zero, suc, ◌+◌, ◌<◌, Bool, true, cond, eqb, List, [], ◌∷◌, length, get_or, set, replicate, Some, sym, refl, ap, ◌∙◌, inl, inr, arith, get_or-set_other, get_or-set_same}
use Rattle.std.proofs.lemmas.Bool.{cases_Bool}
use Rattle.std.proofs.lemmas.Bool.Decides.{nat_tests}
use Rattle.std.specs.List.{position_from}
use Rattle.sector.specs.declared.size.SizeCode.{SizeCode}
use Rattle.sector.specs.Sizes.{bytes_of}
use Rattle.drive.specs.declared.answers.SectorId.{SectorId}
use Rattle.drive.specs.Model.{Sector, no_sector, is_meant, slot_of, rewritten, blank_track}
use Rattle.drive.proofs.Meant.{meant_at}
use Rattle.round_trip.specs.Ledger.{numbered}

-- ---- the first match
-- replacing an element by one that passes the test alike moves no first match
pub first_set : {A : Type 0} (test : A → Bool) (d : A) (i : ℕ) (xs : List A) (k : ℕ) (y : A) → test y ≡ test (get_or xs k d) → position_from test i (set xs k y) ≡ position_from test i xs
first_set test d i [] k y e = refl
first_set test d i (x ∷ xs) zero y e = ap (λ t. cond t (Some i) (position_from test (i + 1) xs)) e
first_set test d i (x ∷ xs) (suc k) y e = ap (λ o. cond (test x) (Some i) o) (first_set test d (i + 1) xs k y e)

-- ---- a sector written
-- at a place there stands, first of its number and size code, a sector with these bytes and check bytes
pub record Stands (track : List Sector) (number : ℕ) (size : SizeCode) (bytes check : List ℕ) : Type 0 where
  pub slot : ℕ
  pub found : slot_of track number size ≡ Some slot
  pub bytes_are : (get_or track slot no_sector).bytes ≡ bytes
  pub check_are : (get_or track slot no_sector).check ≡ check

-- a track with one sector rewritten
abbrev pub rewritten_at : List Sector → ℕ → List ℕ → List ℕ → List Sector
rewritten_at track k bytes check = set track k (rewritten (get_or track k no_sector) bytes check)

pub slots_stay : (track : List Sector) (k : ℕ) (bytes check : List ℕ) (number : ℕ) (size : SizeCode) → slot_of (rewritten_at track k bytes check) number size ≡ slot_of track number size
slots_stay track k bytes check number size = first_set (is_meant number size) no_sector 0 track k (rewritten (get_or track k no_sector) bytes check) refl

module _ (track : List Sector) (number : ℕ) (size : SizeCode) (k : ℕ) (bytes check : List ℕ) (slot : slot_of track number size ≡ Some k) where
  -- it stands as written
  pub stands_written : Stands (rewritten_at track k bytes check) number size bytes check
  stands_written =
      let here = (meant_at track number size k slot).0 in
      let is = get_or-set_same track k (rewritten (get_or track k no_sector) bytes check) no_sector here in
      record {
        slot = k;
        found = slots_stay track k bytes check number size ∙ slot;
        bytes_are = ap (λ (s : Sector). s.bytes) is;
        check_are = ap (λ (s : Sector). s.check) is;
      }

  -- and the others as they stood
  pub stands_beside : (n : ℕ) (z : SizeCode) (b c : List ℕ) → ((n ≡ number) × (z ≡ size) → ⊥) → Stands track n z b c → Stands (rewritten_at track k bytes check) n z b c
  stands_beside n z b c other s =
      let there = meant_at track n z s.slot s.found in
      let here = meant_at track number size k slot in
      let ne : s.slot ≡ k → ⊥ =
      λ e. other (sym there.1 ∙ ap (λ j. (get_or track j no_sector).number) e ∙ here.1, sym there.2 ∙ ap (λ j. (get_or track j no_sector).size) e ∙ here.2) in
      let is : get_or (rewritten_at track k bytes check) s.slot no_sector ≡ get_or track s.slot no_sector = get_or-set_other track k s.slot _ no_sector ne in
      record {
        slot = s.slot;
        found = slots_stay track k bytes check n z ∙ s.found;
        bytes_are = ap (λ (x : Sector). x.bytes) is ∙ s.bytes_are;
        check_are = ap (λ (x : Sector). x.check) is ∙ s.check_are;
      }

-- ---- a track formatted
-- a number that a format gives stands on its track
blank_first : (ids : List SectorId) (size : SizeCode) (check : List ℕ) (number i : ℕ) → numbered ids number ≡ true → (k : ℕ) × (position_from (is_meant number size) i (blank_track ids size check) ≡ Some k)
blank_first [] size check number i e = cc
blank_first (id ∷ ids) size check number i e =
    elim (cases_Bool (eqb id.number number)) [
      | inl is ↦ (i, grind (arith, nat_tests, is))
      | inr other ↦ let later = blank_first ids size check number (i + 1) (grind (arith, e, other)) in (later.0, grind (arith, nat_tests, other, later.1))
    ]

pub blank_at : (ids : List SectorId) (size : SizeCode) (check : List ℕ) (k : ℕ) → k < length (blank_track ids size check) → ((get_or (blank_track ids size check) k no_sector).bytes ≡ replicate (bytes_of size) 0) × ((get_or (blank_track ids size check) k no_sector).check ≡ check) × ((get_or (blank_track ids size check) k no_sector).size ≡ size)
blank_at [] size check k h = absurd (omega arith)
blank_at (id ∷ ids) size check zero h = (refl, refl, refl)
blank_at (id ∷ ids) size check (suc k) h = blank_at ids size check k (omega arith)

pub stands_formatted : (ids : List SectorId) (size : SizeCode) (check : List ℕ) (number : ℕ) → numbered ids number ≡ true → Stands (blank_track ids size check) number size (replicate (bytes_of size) 0) check
stands_formatted ids size check number e =
    let f = blank_first ids size check number 0 e in
    let here = (meant_at (blank_track ids size check) number size f.0 f.1).0 in
    let is = blank_at ids size check f.0 here in
    record { slot = f.0; found = f.1; bytes_are = is.0; check_are = is.1 }
