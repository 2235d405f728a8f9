-- Worked examples of the two codes.
use Rattle.std.specs.Prelude.{◌≡◌, ℕ, suc, ◌+◌, ◌*◌, codes, ◌==◌}
use Rattle.sector.specs.Bits.{BitSet}
use Rattle.check_code.specs.Code.{crc_code, ecc_code, check_of, amount_of}

-- one wrong bit, the last of n + 1 bytes
abbrev pub last_data_bit : ℕ → BitSet
last_data_bit n i = i == 8 * n + 7

-- What is known of both codes.
pub record Examples : Type 0 where
  -- the CRC of the nine digits, and their ECC
  pub nine_digits : check_of crc_code (codes "123456789") ≡ 0x29b1
  pub nine_digits_ecc : check_of ecc_code (codes "123456789") ≡ 0xd839_40b8
  -- the amount of one wrong bit at the last data bit, at every length
  pub crc_bit : (n : ℕ) → amount_of crc_code (last_data_bit n) (suc n) ≡ 0x1021
  pub ecc_bit : (n : ℕ) → amount_of ecc_code (last_data_bit n) (suc n) ≡ 0x140a_0445
