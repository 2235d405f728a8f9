-- Bursts are apart: in an ECC sector of any of the four sizes, the amount tells which burst it was.
use Rattle.std.specs.Prelude.{◌≡◌, ℕ, ◌<◌, ◌≢◌}
use Rattle.sector.specs.declared.size.SizeCode.{SizeCode}
use Rattle.sector.specs.Bits.{BitSet, OneBurst}
use Rattle.burst.specs.Search.{bits_of, amount}

-- two bursts of one amount are the same set of bits
abbrev pub BurstsApart : Type 0
BurstsApart = (size : SizeCode) (w u : BitSet) → OneBurst w (bits_of size) → OneBurst u (bits_of size)
    → amount size w ≡ amount size u → (i : ℕ) → i < bits_of size → w i ≡ u i

-- no burst has the amount 0
abbrev pub NoBurstVanishes : Type 0
NoBurstVanishes = (size : SizeCode) (w : BitSet) → OneBurst w (bits_of size) → amount size w ≢ 0
