-- What a delivered sector's difference tells, under either code, where it was written whole and at most one burst is wrong.
use Rattle.std.proofs.Common.{◌≡◌, ℕ, ◌+◌, ◌*◌, ◌<◌, false, List, length, Some, sym, refl, ap, ◌∙◌, subst, ap₂, inr, arith}
use lib.Bits.{bit_xor}
use Rattle.sector.specs.declared.size.SizeCode.{SizeCode}
use Rattle.sector.specs.declared.wrong_bits.Burst.{Burst}
use Rattle.sector.specs.Sizes.{bytes_of}
use Rattle.sector.specs.Bits.{BitSet, from_bit, inverted, OneBurst, set_of}
use Rattle.sector.proofs.Fed.{fed_none, first_bits_none}
use Rattle.sector.proofs.Inverted.{inverted_none, inverted_back}
use Rattle.check_code.specs.declared.mode.CheckMode.{CheckMode}
use Rattle.check_code.specs.declared.mode.CheckMode.TheVariants.{Crc, Ecc}
use Rattle.check_code.specs.Code.{width, enter, ecc_code, check_bytes_of, amount_of}
use Rattle.check_code.specs.Laws.{Sound, damaged_difference}
use Rattle.check_code.specs.Mode.{code_of}
use Rattle.check_code.proofs.Laws.{whole, inverting, balance_cong}
use Rattle.check_code.proofs.Window.{amount_shows}
use Rattle.check_code.specs.Sound.{crc_sound, ecc_sound}
use Rattle.burst.specs.Search.{bits_of, first_burst}
use Rattle.burst.specs.Mending.{Delivered}
use Rattle.burst.proofs.Apart.{apart}
use Rattle.burst.proofs.Restoring.{burst_answer, burst_found}

pub sound_mode : (m : CheckMode) → Sound (code_of m)
sound_mode Crc = crc_sound
sound_mode Ecc = ecc_sound

-- the difference of a sector that was written whole and is delivered with these bits wrong
abbrev pub differs_by : CheckMode → BitSet → List ℕ → ℕ
differs_by m w bytes = damaged_difference (code_of m) w bytes (check_bytes_of (code_of m) bytes)

-- it is the amount of the bits
pub differs_amount : (m : CheckMode) (w : BitSet) (bytes : List ℕ) → differs_by m w bytes ≡ amount_of (code_of m) w (length bytes)
differs_amount m w bytes =
    inverting (code_of m) (sound_mode m) w bytes (check_bytes_of (code_of m) bytes) refl
    ∙ ap (λ x. bit_xor x (amount_of (code_of m) w (length bytes))) (whole (code_of m) (sound_mode m) bytes)

none_enters : (m : CheckMode) → enter (code_of m) 0 false ≡ 0
none_enters Crc = refl
none_enters Ecc = refl

-- ---- no wrong bit among those that the code uses
module _ (m : CheckMode) (w : BitSet) (bytes : List ℕ) (clean : (i : ℕ) → i < 8 * length bytes + width (code_of m) → w i ≡ false) where
  pub clean_bytes : inverted w bytes ≡ bytes
  clean_bytes = inverted_none w bytes (λ i l. clean i (omega arith))

  pub clean_differs : differs_by m w bytes ≡ 0
  clean_differs =
      let n = length bytes in
      differs_amount m w bytes
      ∙ ap₂ bit_xor (fed_none (enter (code_of m)) (none_enters m) w (8 * n) (λ i l. clean i (omega arith)))
      (first_bits_none (from_bit (8 * n) w) (width (code_of m)) (λ j l. clean (8 * n + j) (omega arith)))

-- sets that agree on the bits that the code uses have one difference
pub same_bits : (m : CheckMode) (w u : BitSet) (bytes : List ℕ) → ((i : ℕ) → i < 8 * length bytes + width (code_of m) → w i ≡ u i) → differs_by m w bytes ≡ differs_by m u bytes
same_bits m w u bytes same =
    differs_amount m w bytes ∙ balance_cong (code_of m) 0 w u (length bytes) same ∙ sym (differs_amount m u bytes)

-- ---- one burst
module _ (m : CheckMode) (w : BitSet) (bytes : List ℕ) (b : OneBurst w (8 * length bytes + width (code_of m))) where
  pub burst_differs : differs_by m w bytes ≡ 0 → ⊥
  burst_differs e = amount_shows (code_of m) (sound_mode m) w (length bytes) b (sym (differs_amount m w bytes) ∙ e)

-- under ECC the search finds it, and inverting what it finds gives the bytes back
module _ (size : SizeCode) (w : BitSet) (bytes : List ℕ) (long : length bytes ≡ bytes_of size) (b : OneBurst w (8 * length bytes + 32)) where
  as_delivered : Delivered bytes (inverted w bytes) (inverted (from_bit (8 * length bytes) w) (check_bytes_of ecc_code bytes))
  as_delivered =
      record {
        size = size;
        long = sym long;
        wrong = w;
        few = inr (subst (λ n. OneBurst w (8 * n + 32)) long b);
        came = refl;
        checked = refl;
      }

  pub mends : (f : Burst) × ((first_burst size (differs_by Ecc w bytes) ≡ Some f) × (inverted (set_of f) (inverted w bytes) ≡ bytes))
  unfolding as_delivered
  mends =
      let here : OneBurst w (bits_of size) = subst (λ n. OneBurst w (8 * n + 32)) long b in
      let a = burst_answer bytes (inverted w bytes) (inverted (from_bit (8 * length bytes) w) (check_bytes_of ecc_code bytes)) as_delivered here in (
        a.0,
        (
          a.1,
          inverted_back w (set_of a.0) bytes
              (λ i l. burst_found bytes (inverted w bytes) (inverted (from_bit (8 * length bytes) w) (check_bytes_of ecc_code bytes)) as_delivered here a.0 a.1 i (omega (arith, long))),
        ),
      )

-- two bursts of one difference are the same, and the same burst has one difference
pub same_difference : (size : SizeCode) (w u : BitSet) (bytes : List ℕ) → length bytes ≡ bytes_of size → OneBurst w (8 * bytes_of size + 32) → OneBurst u (8 * bytes_of size + 32)
    → differs_by Ecc w bytes ≡ differs_by Ecc u bytes → (i : ℕ) → i < 8 * bytes_of size + 32 → w i ≡ u i
same_difference size w u bytes long bw bu e =
    apart size w u bw bu
    (ap (amount_of ecc_code w) (sym long) ∙ sym (differs_amount Ecc w bytes) ∙ e ∙ differs_amount Ecc u bytes ∙ ap (amount_of ecc_code u) long)
