-- Mending a delivered sector.
use Rattle.std.specs.Prelude.{◌≡◌, ℕ, ◌*◌, ◌<◌, false, cond, ◌⊎◌, List, length, Some, None, Option, Ok, Err, Result, ok_or, option_map, ◌==◌}
use Rattle.sector.specs.declared.wrong_bits.Burst.{Burst}
use Rattle.sector.specs.declared.size.SizeCode.{SizeCode}
use Rattle.sector.specs.Sizes.{bytes_of}
use Rattle.sector.specs.Bits.{BitSet, from_bit, inverted, OneBurst, set_of}
use Rattle.check_code.specs.Code.{ecc_code, check_bytes_of, difference_of}
use Rattle.burst.specs.declared.mending.CorrectionError.{CorrectionError}
use Rattle.burst.specs.declared.mending.CorrectionError.TheVariants.{Uncorrectable, UnknownSize}
use Rattle.burst.specs.Search.{bits_of, first_burst}

-- What a correction answers: the burst that it mended, or none where the check fits the bytes, or why there is no correction.
abbrev pub Correction : Type 0
Correction = Result (Option Burst) CorrectionError

-- what a correction answers at a difference: the check fits the bytes, or it goes by the first burst, if one has the amount
abbrev pub judged : SizeCode → ℕ → Correction
judged size difference = cond (difference == 0) (Ok None) (ok_or (option_map Some (first_burst size difference)) Uncorrectable)

-- what a correction answers; where sectors do not come in this length, it is refused
abbrev pub correction : Option SizeCode → List ℕ → List ℕ → Correction
correction (Some size) bytes check = judged size (difference_of ecc_code bytes check)
correction None bytes check = Err UnknownSize

-- what an answer leaves in the bytes: a burst that is answered is inverted
abbrev pub mended : Correction → List ℕ → List ℕ
mended (Ok (Some b)) bytes = inverted (set_of b) bytes
mended (Ok None) bytes = bytes
mended (Err e) bytes = bytes

-- what a search leaves in the bytes: a burst that is found is inverted
abbrev pub mended_by : Option Burst → List ℕ → List ℕ
mended_by (Some b) bytes = inverted (set_of b) bytes
mended_by None bytes = bytes

-- no bit of a sector is wrong, or those that are make one burst
abbrev pub AtMostOneBurst : BitSet → ℕ → Type 0
AtMostOneBurst w bits = ((i : ℕ) → i < bits → w i ≡ false) ⊎ OneBurst w bits

-- The bytes and check bytes came from a sector that was written whole, with at most one burst of wrong bits.
pub record Delivered (written : List ℕ) (bytes check : List ℕ) : Type 0 where
  pub size : SizeCode
  pub long : bytes_of size ≡ length written
  pub wrong : BitSet
  pub few : AtMostOneBurst wrong (bits_of size)
  pub came : bytes ≡ inverted wrong written
  pub checked : check ≡ inverted (from_bit (8 * length written) wrong) (check_bytes_of ecc_code written)

-- the bytes and check bytes are of a sector of this size, and have this difference
abbrev pub Differs : SizeCode → ℕ → List ℕ → List ℕ → Type 0
Differs size difference bytes check = (length bytes ≡ bytes_of size) × (difference_of ecc_code bytes check ≡ difference)

-- such a sector is given back as it was written
abbrev pub Restored : List ℕ → List ℕ → List ℕ → Type 0
Restored bytes check after = (written : List ℕ) → Delivered written bytes check → after ≡ written
