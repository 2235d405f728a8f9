-- A check code: what a shift register that divides by a polynomial is left with.
use Rattle.std.specs.Prelude.{ℕ, suc, ◌+◌, ◌-◌, ◌*◌, ◌%◌, ◌^◌, Bool, List, length, bit_xor}
use Rattle.std.specs.Int.{w32, bit_at, from_bool, to_be_bytes}
use Rattle.sector.specs.Bits.{BitSet, ones_of, from_bit, fed, first_bits}

-- A code has a register of top + 1 bits, at most 32, which holds `start` at the start,
-- and a polynomial of that degree that it divides by: bit i of `divisor` is the coefficient of X^i.
pub record Code : Type 0 where
  pub top : ℕ
  pub divisor : ℕ
  pub start : ℕ

-- CRC: X^16 + X^12 + X^5 + 1, from FFFFh
abbrev pub crc_code : Code
crc_code = record { top = 15; divisor = 2 ^ 16 + 2 ^ 12 + 2 ^ 5 + 1; start = 0xffff }

-- ECC: X^32 + X^28 + X^26 + X^19 + X^17 + X^10 + X^6 + X^2 + 1, from FFFFFFFFh
abbrev pub ecc_code : Code
ecc_code = record {
  top = 31;
  divisor = 2 ^ 32 + 2 ^ 28 + 2 ^ 26 + 2 ^ 19 + 2 ^ 17 + 2 ^ 10 + 2 ^ 6 + 2 ^ 2 + 1;
  start = 0xffff_ffff;
}

-- how many bits the register has, and so how many check bits the code uses
abbrev pub width : Code → ℕ
width c = suc c.top

-- one shift of the register, less the polynomial where its top bit falls out
abbrev pub step : Code → ℕ → ℕ
step c v = bit_xor (2 * v) (c.divisor * bit_at v c.top)

-- a bit enters beside the top bit, and the register is shifted
abbrev pub enter : Code → ℕ → Bool → ℕ
enter c v b = step c (bit_xor v (from_bool b * 2 ^ c.top))

-- What is left of a remembered remainder, of which the register holds its own number of bits, when bytes have entered, top bits first.
abbrev pub remainder_of : Code → ℕ → List ℕ → ℕ
remainder_of c from bytes = fed (enter c) (from % 2 ^ width c) (ones_of bytes) (8 * length bytes)

-- the check of some bytes
abbrev pub check_of : Code → List ℕ → ℕ
check_of c bytes = remainder_of c c.start bytes

-- the four check bytes: the check first, high byte first, and zeros after it
abbrev pub check_bytes_of : Code → List ℕ → List ℕ
check_bytes_of c bytes = to_be_bytes w32 (check_of c bytes * 2 ^ (32 - width c))

-- the check that came in the check bytes: their first bits, as many as the code uses
abbrev pub delivered_check : Code → List ℕ → ℕ
delivered_check c check = first_bits (width c) (ones_of check)

-- the difference of a delivered sector: its recomputed check xor its delivered check
abbrev pub difference_of : Code → List ℕ → List ℕ → ℕ
difference_of c bytes check = bit_xor (check_of c bytes) (delivered_check c check)

-- What is left of the bits of a sector of n bytes: the register after them, xor the check that follows.
abbrev pub balance : Code → ℕ → BitSet → ℕ → ℕ
balance c start w n = bit_xor (fed (enter c) start w (8 * n)) (first_bits (width c) (from_bit (8 * n) w))

-- the amount of a set of wrong bits in a sector of n bytes: what they leave by themselves, in a register that starts at 0
abbrev pub amount_of : Code → BitSet → ℕ → ℕ
amount_of c w n = balance c 0 w n
