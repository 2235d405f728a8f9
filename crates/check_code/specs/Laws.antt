-- The laws of a check code.
use Rattle.std.specs.Prelude.{◌≡◌, ℕ, suc, ◌+◌, ◌*◌, ◌%◌, ◌^◌, ◌<◌, ◌≤◌, List, length, ◌≢◌, bit_xor}
use Rattle.sector.specs.Bits.{BitSet, both_of, from_bit, inverted, OneBurst}
use Rattle.check_code.specs.Code.{Code, width, check_bytes_of, difference_of, amount_of}

-- the polynomial has the register's number of bits as its degree, from 8 to 32, and a last term 1; the start fits the register
pub record Sound (c : Code) : Type 0 where
  pub least : 8 ≤ width c
  pub most : width c ≤ 32
  pub low : 2 ^ width c ≤ c.divisor
  pub high : c.divisor < 2 ^ suc (width c)
  pub odd : c.divisor % 2 ≡ 1
  pub fits : c.start < 2 ^ width c

-- bytes with the check bytes that belong to them have no difference
abbrev pub WrittenWhole : Code → Type 0
WrittenWhole c = (bytes : List ℕ) → difference_of c bytes (check_bytes_of c bytes) ≡ 0

-- the difference of a sector with the bits of a set inverted, in its bytes and in its check bytes
abbrev pub damaged_difference : Code → BitSet → List ℕ → List ℕ → ℕ
damaged_difference c w bytes check = difference_of c (inverted w bytes) (inverted (from_bit (8 * length bytes) w) check)

-- inverting a set of bits xors the difference with the set's amount, which the set and the sector's length fix
abbrev pub Inverting : Code → Type 0
Inverting c = (w : BitSet) (bytes check : List ℕ) → length check ≡ 4
    → damaged_difference c w bytes check ≡ bit_xor (difference_of c bytes check) (amount_of c w (length bytes))

-- the amounts of two sets combine by xor
abbrev pub Combining : Code → Type 0
Combining c = (w u : BitSet) (n : ℕ) → amount_of c (both_of w u) n ≡ bit_xor (amount_of c w n) (amount_of c u n)

-- a burst among the bits that the code uses makes the difference of a sector that was written whole nonzero
abbrev pub BurstShows : Code → Type 0
BurstShows c = (w : BitSet) (bytes : List ℕ) → OneBurst w (8 * length bytes + width c)
    → damaged_difference c w bytes (check_bytes_of c bytes) ≢ 0
