-- The track after a sector of its record is written: the sector in that slot is new, and the others stand.
use Rattle.std.proofs.Common.{◌≡◌, ℕ, zero, suc, ◌+◌, ◌*◌, ◌<◌, ◌≤◌, ◌⊎◌, eqb, List, [], ◌∷◌, map, length, get_or, set, sym, refl, ap, ◌∙◌, subst, ap₂, inl, inr, ⊎_elim, arith}
use Rattle.std.specs.List.{range_with_len}
use Rattle.std.proofs.lemmas.Nat.{row_fits}
use Rattle.std.proofs.lemmas.List.{length-set, get_or-set_same, get_or-set_other}
use Rattle.std.proofs.lemmas.List.FromFn.{fill_by_all, get_or-map-range_with_len, length-map-range_with_len}
use Rattle.std.proofs.lemmas.Bool.{cases_eq, cases_lt}
use Rattle.sector.specs.Sizes.{bytes_of, size_numbered}
use Rattle.sector.specs.declared.size.SizeCode.{SizeCode}
use Rattle.drive.specs.Model.{Sector, no_sector, rewritten}
use Rattle.image.specs.Parts.{part, over}
use Rattle.image.specs.Record.{count_in, size_in, bad_mark, formatted, sector_at, sectors_in, track_in, Slot, with_sector}
use Rattle.image.proofs.Windows.{length_over, get_or-over_outside, part_over_other, part_over_same}
use Rattle.image.proofs.Tracks.{held, held_at, pairs_from}
use Rattle.image.proofs.Attempts.{bytes_fit, check_fits, sector_size}

module _ (r : List ℕ) (size : SizeCode) (k : ℕ) (bytes check : List ℕ) (s : Slot r size k) (full : length bytes ≡ bytes_of size) (four : length check ≡ 4) where
  -- how many bytes a sector has, where those of slot k stand, and the record with its new bytes, and then with its new check bytes too
  abbrev z : ℕ
  z = length bytes

  abbrev at : ℕ
  at = 386 + k * z

  abbrev mid : List ℕ
  mid = over at bytes r

  abbrev new : List ℕ
  new = with_sector k bytes check r

  size_old : bytes_of (size_in r) ≡ z
  size_old = sector_size r size k s ∙ sym full

  inner_fits : at + z ≤ length r
  inner_fits = subst (λ (n : ℕ). (386 + k * n) + n ≤ length r) (sym full) (bytes_fit r size k s)

  outer_fits : (130 + 4 * k) + length check ≤ length mid
  outer_fits = omega (arith, four, length_over at bytes r inner_fits, check_fits r size k s, s.room)

  pub written_long : length new ≡ length r
  written_long = length_over (130 + 4 * k) check mid outer_fits ∙ length_over at bytes r inner_fits

  -- ---- what stands beside both
  head_same : (j : ℕ) → j < 130 → get_or new j 0 ≡ get_or r j 0
  head_same j h =
      get_or-over_outside (130 + 4 * k) check mid j 0 outer_fits (inl (omega arith)) ∙ get_or-over_outside at bytes r j 0 inner_fits (inl (omega arith))

  pairs_same : (i n : ℕ) → i + n ≤ 64 → pairs_from new i n ≡ pairs_from r i n
  pairs_same i zero h = refl
  pairs_same i (suc n) h =
      λ j. (head_same (2 + 2 * i) (omega arith) j ∷ head_same (3 + 2 * i) (omega arith) j ∷ []) ∷ pairs_same (i + 1) n (omega arith) j

  formatted_same : formatted new ≡ formatted r
  formatted_same =
      let n = head_same 0 (omega arith) in
      let c = head_same 1 (omega arith) in
      let p = pairs_same 0 (count_in r) (omega (arith, s.few)) in
      let l = written_long in
      cc

  part_same : (i n : ℕ) → (i + n ≤ at) ⊎ (at + z ≤ i) → (i + n ≤ 130 + 4 * k) ⊎ ((130 + 4 * k) + length check ≤ i) → part i n new ≡ part i n r
  part_same i n p q = part_over_other (130 + 4 * k) check mid i n outer_fits q ∙ part_over_other at bytes r i n inner_fits p

  -- ---- the sectors
  sector_with : (i : ℕ) → i < 64 → (bs cs : List ℕ) → part (386 + i * z) z new ≡ bs → part (130 + 4 * i) 4 new ≡ cs → sector_at new i ≡ rewritten (sector_at r i) bs cs
  sector_with i l bs cs eb ec =
      let code = head_same 1 (omega arith) in
      λ j.
      record {
        number = head_same (2 + 2 * i) (omega arith) j;
        size = size_numbered (code j);
        bad = eqb (head_same (3 + 2 * i) (omega arith) j) bad_mark;
        bytes = (ap (λ (n : ℕ). part (386 + i * n) n new) (ap (λ (n : ℕ). bytes_of (size_numbered n)) code ∙ size_old) ∙ eb) j;
        check = ec j;
      }

  sector_here : sector_at new k ≡ rewritten (sector_at r k) bytes check
  sector_here =
      sector_with k (omega (arith, s.below, s.few)) bytes check
      (part_over_other (130 + 4 * k) check mid at z outer_fits (inr (omega (arith, four, check_fits r size k s))) ∙ part_over_same at bytes r inner_fits)
      (ap (λ (n : ℕ). part (130 + 4 * k) n new) (sym four) ∙ part_over_same (130 + 4 * k) check mid outer_fits)

  sector_there : (i : ℕ) → i < 64 → (i ≡ k → ⊥) → sector_at new i ≡ sector_at r i
  sector_there i l ne =
      sector_with i l (sector_at r i).bytes (sector_at r i).check
      (part_same (386 + i * z) z
      (⊎_elim (λ l. inl (omega (arith, row_fits i z k z l (omega arith)))) (λ l. inr (omega (arith, row_fits k z i z (omega arith) (omega arith)))) (cases_lt i k))
      (inr (omega (arith, four, check_fits r size k s)))
      ∙ sym (ap (λ (n : ℕ). part (386 + i * n) n r) size_old))
      (part_same (130 + 4 * i) 4 (inl (omega arith)) (⊎_elim (λ h. inl (omega arith)) (λ h. inr (omega (arith, four))) (cases_lt i k)))

  pub track_written : track_in new ≡ set (track_in r) k (rewritten (get_or (track_in r) k no_sector) bytes check)
  track_written =
      let x : Sector = rewritten (sector_at r k) bytes check in
      let long : length (sectors_in r) ≡ count_in r = length-map-range_with_len (sector_at r) 0 (count_in r) in
      held new (formatted_same ∙ s.whole)
      ∙ ap (λ (m : ℕ). map (sector_at new) (range_with_len 0 m)) (head_same 0 (omega arith))
      ∙ sym (fill_by_all (sector_at new) (set (sectors_in r) k x) (count_in r) no_sector (length-set (sectors_in r) k x ∙ long)
      (λ i l. ⊎_elim
      (λ e. ap (λ (j : ℕ). get_or (set (sectors_in r) k x) j no_sector) e ∙ get_or-set_same (sectors_in r) k x no_sector (omega (arith, s.below))
      ∙ sym (ap (sector_at new) e ∙ sector_here))
      (λ ne. get_or-set_other (sectors_in r) k i x no_sector ne ∙ get_or-map-range_with_len (sector_at r) 0 (count_in r) i i no_sector l (omega arith)
      ∙ sym (sector_there i (omega (arith, s.few)) ne))
      (cases_eq i k)))
      ∙ ap₂ (λ (l : List Sector) (x : Sector). set l k (rewritten x bytes check)) (sym (held r s.whole))
      (sym (held_at r k no_sector s.whole s.below))
