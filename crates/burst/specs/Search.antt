-- The burst that a difference tells of.
use Rattle.std.specs.Prelude.{◌≡◌, ℕ, ◌+◌, ◌*◌, ◌/◌, ◌%◌, ◌<◌, ◌≤◌, false, map, find, Option, ◌==◌, ◌≢◌}
use Rattle.std.specs.List.{range_with_len}
use Rattle.sector.specs.declared.size.SizeCode.{SizeCode}
use Rattle.sector.specs.declared.wrong_bits.Burst.{Burst}
use Rattle.sector.specs.Sizes.{bytes_of}
use Rattle.sector.specs.Bits.{BitSet, OneBurst, set_of}
use Rattle.check_code.specs.Code.{ecc_code, amount_of}

-- how many bits an ECC sector has, its check bytes included
abbrev pub bits_of : SizeCode → ℕ
bits_of size = 8 * bytes_of size + 32

-- the amount of a set of wrong bits in an ECC sector
abbrev pub amount : SizeCode → BitSet → ℕ
amount size w = amount_of ecc_code w (bytes_of size)

-- the bursts by number: at each first bit the sixteen odd patterns below 32, the smallest first
abbrev pub burst_numbered : ℕ → Burst
burst_numbered n = record { first = n / 16; pattern = 2 * (n % 16) + 1 }

-- the burst with the smallest first bit, and then the smallest pattern, whose amount is the difference
unfoldable pub first_burst : SizeCode → ℕ → Option Burst
first_burst size difference = find (λ b. amount size (set_of b) == difference) (map burst_numbered (range_with_len 0 (16 * bits_of size)))

-- no burst of a sector has this amount
abbrev pub NoneFits : SizeCode → ℕ → Type 0
NoneFits size difference = (w : BitSet) → OneBurst w (bits_of size) → amount size w ≢ difference

-- This burst has the amount, lies in the sector, and is the only one that has it.
pub record Fits (size : SizeCode) (difference : ℕ) (b : Burst) : Type 0 where
  pub inside : b.first < bits_of size
  pub odd : b.pattern % 2 ≡ 1
  pub small : b.pattern < 32
  pub ends : (i : ℕ) → bits_of size ≤ i → set_of b i ≡ false
  pub burst : OneBurst (set_of b) (bits_of size)
  pub has : amount size (set_of b) ≡ difference
  pub only : (w : BitSet) → OneBurst w (bits_of size) → amount size w ≡ difference → (i : ℕ) → i < bits_of size → w i ≡ set_of b i
