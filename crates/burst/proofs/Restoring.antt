-- A sector with at most one burst of wrong bits is given back as it was written.
use Rattle.std.proofs.Common.{◌≡◌, ℕ, ◌+◌, ◌*◌, ◌<◌, Bool, true, false, cond, eqb, List, length, Some, None, Option, Ok, ok_or, option_map, sym, refl, ap, ◌∙◌, subst, ap₂, ⊎_elim, arith}
use lib.Bits.{bit_xor}
use Rattle.std.proofs.lemmas.Bool.{cond-false, ne_eqb, eqb-true}
use Rattle.sector.specs.Sizes.{bytes_of, size_with}
use Rattle.sector.specs.declared.size.SizeCode.{SizeCode}
use Rattle.sector.specs.declared.wrong_bits.Burst.{Burst}
use Rattle.sector.specs.Bits.{from_bit, inverted, OneBurst, set_of}
use Rattle.sector.proofs.Sizes.{told_by_bytes}
use Rattle.sector.proofs.Inverted.{length-inverted, inverted_none, inverted_back}
use Rattle.check_code.specs.Code.{ecc_code, check_bytes_of, difference_of, amount_of}
use Rattle.check_code.specs.Sound.{ecc_sound}
use Rattle.check_code.proofs.Laws.{whole, inverting}
use Rattle.check_code.proofs.Window.{amount_shows}
use Rattle.burst.specs.Search.{bits_of, first_burst}
use Rattle.burst.specs.Mending.{Correction, judged, correction, mended, mended_by, Delivered, Differs, Restored}
use Rattle.burst.specs.declared.mending.CorrectionError.TheVariants.{Uncorrectable}
use Rattle.burst.proofs.Searching.{none_fits, fits}

-- nothing is found at the difference 0, since every burst shows
found_at_zero : (size : SizeCode) (f : Burst) → first_burst size 0 ≡ Some f → ⊥
found_at_zero size f e = let fit = fits size 0 f e in amount_shows ecc_code ecc_sound (set_of f) (bytes_of size) fit.burst fit.has

module _ (written bytes check : List ℕ) (d : Delivered written bytes check) where
  pub same_length : length bytes ≡ length written
  same_length = ap length d.came ∙ length-inverted d.wrong written

  -- ---- nothing is wrong
  module _ (clean : (i : ℕ) → i < bits_of d.size → d.wrong i ≡ false) where
    pub clean_bytes : bytes ≡ written
    clean_bytes = d.came ∙ inverted_none d.wrong written (λ i l. clean i (omega (arith, d.long)))

    pub clean_difference : difference_of ecc_code bytes check ≡ 0
    clean_difference =
        ap₂ (difference_of ecc_code) clean_bytes
        (d.checked ∙ inverted_none (from_bit (8 * length written) d.wrong) (check_bytes_of ecc_code written)
        (λ i l. clean (8 * length written + i) (omega (arith, d.long))))
        ∙ whole ecc_code ecc_sound written

  -- ---- one burst is wrong
  pub told : difference_of ecc_code bytes check ≡ amount_of ecc_code d.wrong (length written)
  told =
      ap₂ (difference_of ecc_code) d.came d.checked
      ∙ inverting ecc_code ecc_sound d.wrong written (check_bytes_of ecc_code written) refl
      ∙ ap (λ x. bit_xor x (amount_of ecc_code d.wrong (length written))) (whole ecc_code ecc_sound written)

  module _ (b : OneBurst d.wrong (bits_of d.size)) where
    pub burst_difference : difference_of ecc_code bytes check ≡ 0 → ⊥
    burst_difference e =
        amount_shows ecc_code ecc_sound d.wrong (length written) (subst (λ n. OneBurst d.wrong (8 * n + 32)) d.long b) (sym told ∙ e)

    amount_here : amount_of ecc_code d.wrong (bytes_of d.size) ≡ difference_of ecc_code bytes check
    amount_here = ap (amount_of ecc_code d.wrong) d.long ∙ sym told

    -- the burst that is found is the one that is wrong
    pub burst_found : (f : Burst) → first_burst d.size (difference_of ecc_code bytes check) ≡ Some f
        → (i : ℕ) → i < bits_of d.size → d.wrong i ≡ set_of f i
    burst_found f e = (fits d.size (difference_of ecc_code bytes check) f e).only d.wrong b amount_here

    pub burst_fits : first_burst d.size (difference_of ecc_code bytes check) ≡ None → ⊥
    burst_fits e = none_fits d.size (difference_of ecc_code bytes check) e d.wrong b amount_here

    -- so the correction answers a burst
    pub burst_answer : (f : Burst) × (first_burst d.size (difference_of ecc_code bytes check) ≡ Some f)
        × (judged d.size (difference_of ecc_code bytes check) ≡ Ok (Some f))
    burst_answer = answer (first_burst d.size (difference_of ecc_code bytes check)) refl
      where
        answer : (o : Option Burst) → first_burst d.size (difference_of ecc_code bytes check) ≡ o
            → (f : Burst) × (first_burst d.size (difference_of ecc_code bytes check) ≡ Some f) × (judged d.size (difference_of ecc_code bytes check) ≡ Ok (Some f))
        answer None e = absurd (burst_fits e)
        answer (Some f) e = (
          f,
          e,
          cond-false (eqb (difference_of ecc_code bytes check) 0) (Ok None) _
              (ne_eqb (difference_of ecc_code bytes check) 0 burst_difference)
              ∙ ap (λ o. ok_or (option_map Some o) Uncorrectable) e,
        )

  -- ---- what is found mends the sector
  mends_clean : (o : Option Burst) → first_burst d.size (difference_of ecc_code bytes check) ≡ o
      → ((i : ℕ) → i < bits_of d.size → d.wrong i ≡ false) → mended_by o bytes ≡ written
  mends_clean None e clean = clean_bytes clean
  mends_clean (Some f) e clean = absurd (found_at_zero d.size f (ap (first_burst d.size) (sym (clean_difference clean)) ∙ e))

  mends_wrong : (o : Option Burst) → first_burst d.size (difference_of ecc_code bytes check) ≡ o
      → OneBurst d.wrong (bits_of d.size) → mended_by o bytes ≡ written
  mends_wrong None e b = absurd (burst_fits b e)
  mends_wrong (Some f) e b =
      ap (inverted (set_of f)) d.came
      ∙ inverted_back d.wrong (set_of f) written (λ i l. burst_found b f e i (omega (arith, d.long)))

  pub mends : (o : Option Burst) → first_burst d.size (difference_of ecc_code bytes check) ≡ o → mended_by o bytes ≡ written
  mends o e = ⊎_elim (mends_clean o e) (mends_wrong o e) d.few

  -- the size that the bytes' length tells
  pub size_told : size_with (length bytes) ≡ Some d.size
  size_told = ap size_with (same_length ∙ sym d.long) ∙ told_by_bytes d.size

-- a search at a sector's difference leaves it as it was written
pub restored_found : (size : SizeCode) (difference : ℕ) (bytes check : List ℕ) → Differs size difference bytes check
    → (o : Option Burst) → o ≡ first_burst size difference → (after : List ℕ) → after ≡ mended_by o bytes → Restored bytes check after
restored_found size difference bytes check at o e after left written d =
    let same : Some d.size ≡ Some size = sym (size_told written bytes check d) ∙ ap size_with at.0 ∙ told_by_bytes size in
    left ∙ mends written bytes check d o (cc (same, at.1, e))

-- so does a correction, which finds the same
module _ (size : SizeCode) (bytes : List ℕ) (difference : ℕ) where
  judged_mends : (o : Option Burst) → first_burst size difference ≡ o → (z : Bool) → eqb difference 0 ≡ z
      → mended (cond z (Ok None) (ok_or (option_map Some o) Uncorrectable)) bytes ≡ mended_by o bytes
  judged_mends None e true z = refl
  judged_mends (Some f) e true z = absurd (found_at_zero size f (ap (first_burst size) (sym (eqb-true difference 0 z)) ∙ e))
  judged_mends None e false z = refl
  judged_mends (Some f) e false z = refl

restored : (bytes check : List ℕ) → Restored bytes check (mended (correction (size_with (length bytes)) bytes check) bytes)
restored bytes check written d =
    let size = d.size in
    let difference = difference_of ecc_code bytes check in
    ap (λ o. mended (correction o bytes check) bytes) (size_told written bytes check d)
    ∙ judged_mends size bytes difference (first_burst size difference) refl (eqb difference 0) refl
    ∙ mends written bytes check d (first_burst size difference) refl

-- so it is after what any correction answers and leaves
pub restored_by : (bytes check : List ℕ) (r : Correction) → r ≡ correction (size_with (length bytes)) bytes check
    → (after : List ℕ) → after ≡ mended r bytes → Restored bytes check after
restored_by bytes check r e after left = subst (λ t. Restored bytes check t) (sym (left ∙ ap (λ x. mended x bytes) e)) (restored bytes check)
