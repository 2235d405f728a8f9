-- What attempts show of a sector that was written whole, by their differences: which are intact, and which show the same burst.
use Rattle.std.proofs.Common.{◌≡◌, ℕ, zero, suc, ◌+◌, ◌*◌, ◌<◌, false, ◌⊎◌, List, length, Some, None, Option, sym, refl, ap, ◌∙◌, subst, inl, inr, add-one, arith}
use Rattle.std.proofs.lemmas.Bool.{cases_lt}
use Rattle.sector.specs.declared.size.SizeCode.{SizeCode}
use Rattle.sector.specs.Sizes.{bytes_of}
use Rattle.sector.specs.Bits.{BitSet, OneBurst}
use Rattle.check_code.specs.declared.mode.CheckMode.{CheckMode}
use Rattle.check_code.specs.declared.mode.CheckMode.TheVariants.{Crc, Ecc}
use Rattle.check_code.specs.Code.{width}
use Rattle.check_code.specs.Mode.{code_of}
use Rattle.drive.specs.Model.{Showing, no_id, no_data_mark, wrong_bits}
use Rattle.round_trip.specs.Laws.{Mild, Intact, SameBurst, Neighbours, Readable}
use Rattle.round_trip.proofs.Codes.{differs_by, clean_differs, same_bits, burst_differs, same_difference}

-- under ECC, bursts of one difference are the same
ecc_same : (mode : CheckMode) → mode ≡ Ecc → (size : SizeCode) (w u : BitSet) (bytes : List ℕ) → length bytes ≡ bytes_of size
    → OneBurst w (8 * bytes_of size + width (code_of mode)) → OneBurst u (8 * bytes_of size + width (code_of mode))
    → differs_by mode w bytes ≡ differs_by mode u bytes → (i : ℕ) → i < 8 * bytes_of size + width (code_of mode) → w i ≡ u i
ecc_same Crc is size w u bytes long bw bu e = cc
ecc_same Ecc is size w u bytes long bw bu e = same_difference size w u bytes long bw bu e

module _ (mode : CheckMode) (size : SizeCode) (bytes : List ℕ) (long : length bytes ≡ bytes_of size) where
  -- the bits that the code uses
  abbrev pub bits : ℕ
  bits = 8 * bytes_of size + width (code_of mode)

  -- the difference of what an attempt delivers, if it delivers
  abbrev pub difference_shown : Showing → Option ℕ
  difference_shown no_id = None
  difference_shown no_data_mark = None
  difference_shown (wrong_bits w) = Some (differs_by mode w bytes)

  -- ---- one attempt
  pub intact_clean : (sh : Showing) → Intact bits sh → difference_shown sh ≡ Some 0
  intact_clean no_id i = absurd i
  intact_clean no_data_mark i = absurd i
  intact_clean (wrong_bits w) i =
      ap Some (clean_differs mode w bytes (subst (λ n. (k : ℕ) → k < 8 * n + width (code_of mode) → w k ≡ false) (sym long) i))

  pub clean_intact : (sh : Showing) → Mild bits sh → difference_shown sh ≡ Some 0 → Intact bits sh
  clean_intact no_id m e = cc
  clean_intact no_data_mark m e = cc
  clean_intact (wrong_bits w) (inl clean) e = clean
  clean_intact (wrong_bits w) (inr b) e =
      let zero_difference : differs_by mode w bytes ≡ 0 = cc in
      absurd (burst_differs mode w bytes (subst (λ n. OneBurst w (8 * n + width (code_of mode))) (sym long) b) zero_difference)

  -- a difference that is not 0 is a burst's
  pub shows_burst : (w : BitSet) → Mild bits (wrong_bits w) → (differs_by mode w bytes ≡ 0 → ⊥) → OneBurst w bits
  shows_burst w (inl clean) ne = absurd (ne (let e = intact_clean (wrong_bits w) clean in cc))
  shows_burst w (inr b) ne = b

  -- ---- two attempts
  -- the code corrects, and both show one difference, which is not 0
  pub record Corrects (s t : Showing) : Type 0 where
    pub corrects : mode ≡ Ecc
    pub difference : ℕ
    pub nonzero : difference ≡ 0 → ⊥
    pub first : difference_shown s ≡ Some difference
    pub second : difference_shown t ≡ Some difference

  pub same_burst_corrects : mode ≡ Ecc → (s t : Showing) → SameBurst bits s t → Corrects s t
  same_burst_corrects ecc no_id t b = absurd b
  same_burst_corrects ecc no_data_mark t b = absurd b
  same_burst_corrects ecc (wrong_bits w) no_id b = absurd b
  same_burst_corrects ecc (wrong_bits w) no_data_mark b = absurd b
  same_burst_corrects ecc (wrong_bits w) (wrong_bits u) b =
      record {
        corrects = ecc;
        difference = differs_by mode w bytes;
        nonzero = burst_differs mode w bytes (subst (λ n. OneBurst w (8 * n + width (code_of mode))) (sym long) b.0);
        first = refl;
        second = ap Some (sym (same_bits mode w u bytes (subst (λ n. (i : ℕ) → i < 8 * n + width (code_of mode) → w i ≡ u i) (sym long) b.1)));
      }

  pub corrects_same_burst : (s t : Showing) → Mild bits s → Mild bits t → Corrects s t → SameBurst bits s t
  corrects_same_burst no_id t ms mt c = let e = c.first in cc
  corrects_same_burst no_data_mark t ms mt c = let e = c.first in cc
  corrects_same_burst (wrong_bits w) no_id ms mt c = let e = c.second in cc
  corrects_same_burst (wrong_bits w) no_data_mark ms mt c = let e = c.second in cc
  corrects_same_burst (wrong_bits w) (wrong_bits u) ms mt c =
      let ew : differs_by mode w bytes ≡ c.difference = let e = c.first in cc in
      let eu : differs_by mode u bytes ≡ c.difference = let e = c.second in cc in
      let bw = shows_burst w ms (λ z. c.nonzero (sym ew ∙ z)) in
      let bu = shows_burst u mt (λ z. c.nonzero (sym eu ∙ z)) in
      (bw, ecc_same mode c.corrects size w u bytes long bw bu (ew ∙ sym eu))

  -- ---- attempts one after another
  module _ (shows : ℕ → Showing) where
    -- attempt k is corrected by the one before
    abbrev pub Corrected : ℕ → Type 0
    Corrected zero = ⊥
    Corrected (suc k) = Corrects (shows k) (shows (suc k))

    -- attempt k settles the read: it is intact, or corrected
    abbrev pub Settles : ℕ → Type 0
    Settles k = (difference_shown (shows k) ≡ Some 0) ⊎ Corrected k

    -- the first k attempts do not
    abbrev pub Unsettled : ℕ → Type 0
    Unsettled k = (i : ℕ) → i < k → Settles i → ⊥

    pub unsettled_more : (k : ℕ) → Unsettled k → (Settles k → ⊥) → Unsettled (suc k)
    unsettled_more k before now i few settles = elim (cases_lt i k) [ inl less ↦ before i less settles | inr more ↦ let e : i ≡ k = omega arith in now (subst Settles e settles) ]

    pub readable_settles : Readable mode bits shows → (k : ℕ) × ((k < 9) × Settles k)
    readable_settles (inl r) = (r.0, (r.1.0, inl (intact_clean (shows r.0) r.1.1)))
    readable_settles (inr n) = by_mode mode refl n
      where
        by_mode : (m : CheckMode) → mode ≡ m → Neighbours m bits shows → (k : ℕ) × ((k < 9) × Settles k)
        by_mode Crc e n = absurd n
        by_mode Ecc e n =
            let next : n.0 + 1 ≡ suc n.0 = add-one n.0 in
            (suc n.0, (omega (arith, n.1.0), inr (same_burst_corrects e (shows n.0) (shows (suc n.0)) (subst (λ j. SameBurst bits (shows n.0) (shows j)) next n.1.1))))

    pub settles_readable : ((k : ℕ) → k < 9 → Mild bits (shows k)) → (k : ℕ) → k < 9 → Settles k → Readable mode bits shows
    settles_readable mild k few (inl clean) = inl (k, (few, clean_intact (shows k) (mild k few) clean))
    settles_readable mild zero few (inr c) = absurd c
    settles_readable mild (suc k) few (inr c) =
        let before : k < 9 = omega arith in
        let n : (i : ℕ) × ((i < 8) × SameBurst bits (shows i) (shows (i + 1))) =
        (k, (omega arith, subst (λ j. SameBurst bits (shows k) (shows j)) (sym (add-one k)) (corrects_same_burst (shows k) (shows (suc k)) (mild k before) (mild (suc k) few) c))) in
        inr (subst (λ m. Neighbours m bits shows) (sym c.corrects) n)

    -- what a correction says of the difference
    pub corrected_nonzero : (k d : ℕ) → Corrected k → difference_shown (shows k) ≡ Some d → (mode ≡ Ecc) × (d ≡ 0 → ⊥)
    corrected_nonzero zero d c e = absurd c
    corrected_nonzero (suc k) d c e =
        let same : c.difference ≡ d = let second = c.second in cc in
        (c.corrects, λ z. c.nonzero (same ∙ z))
