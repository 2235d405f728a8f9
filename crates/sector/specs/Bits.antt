-- The bits of a sector, and sets of them that are wrong.
use Rattle.std.specs.Prelude.{◌≡◌, ℕ, zero, suc, ◌+◌, ◌-◌, ◌*◌, ◌/◌, ◌%◌, ◌<◌, ◌≤◌, Bool, true, ◌&&◌, List, [], ◌∷◌, ◌==◌, bit_xor, nat_le, slice_index}
use Rattle.std.specs.Bool.{xor}
use Rattle.std.specs.Int.{bit_at, from_bool}
use Rattle.sector.specs.declared.wrong_bits.Burst.{Burst}

-- A set of bits says of each bit whether it is in it. Bits count from 0, the top bit of the first byte.
abbrev pub BitSet : Type 0
BitSet = ℕ → Bool

-- the bits of a number that are 1, from the lowest on
abbrev pub binary : ℕ → BitSet
binary v i = bit_at v i == 1

-- the bits of some bytes that are 1; past their end none is
abbrev pub ones_of : List ℕ → BitSet
ones_of bytes i = binary (slice_index bytes (i / 8)) (7 - i % 8)

-- what is in exactly one of two sets
abbrev pub both_of : BitSet → BitSet → BitSet
both_of w u i = xor (w i) (u i)

-- a set as it counts for bytes that begin at bit n of the sector
abbrev pub from_bit : ℕ → BitSet → BitSet
from_bit n w i = w (n + i)

-- a number that is fed the first n bits of a set, one after another
abbrev pub fed : (ℕ → Bool → ℕ) → ℕ → BitSet → ℕ → ℕ
fed f v w zero = v
fed f v w (suc n) = f (fed f v w n) (w n)

-- the number whose n binary digits, the highest first, are the first n bits of a set
abbrev pub first_bits : ℕ → BitSet → ℕ
first_bits n w = fed (λ v b. v * 2 + from_bool b) 0 w n

-- the bytes with the bits of a set inverted; bits past the end count as none
abbrev pub inverted : BitSet → List ℕ → List ℕ
inverted w [] = []
inverted w (byte ∷ bytes) = bit_xor byte (first_bits 8 w) ∷ inverted (from_bit 8 w) bytes

-- one or more bits of a set among the first `bits`, all of those within `reach` neighbouring ones
pub record Span (reach : ℕ) (w : BitSet) (bits : ℕ) : Type 0 where
  pub some : ℕ
  pub within : some < bits
  pub wrong : w some ≡ true
  pub from : ℕ
  pub near : (i : ℕ) → i < bits → w i ≡ true → (from ≤ i) × (i < from + reach)

-- a burst: one or more wrong bits within five neighbouring bits
abbrev pub OneBurst : BitSet → ℕ → Type 0
OneBurst = Span 5

-- the set that a first bit and a pattern name: bit i of the pattern marks the bit first + i
abbrev pub marked : ℕ → ℕ → BitSet
marked first pattern i = nat_le first i && binary pattern (i - first)

-- the set of a burst
abbrev pub set_of : Burst → BitSet
set_of burst = marked burst.first burst.pattern
