-- Nothing is found so far, and the register is the difference taken back to the last bit of the pair of bytes that the search
-- has come to; `next` is that of the pair after it.
-- The loops hold the sector's bits and not its size, so this is said of the size that has so many.
use Rattle.std.proofs.Common.{◌≡◌, ◌+◌, ◌*◌, ◌^◌, ◌<◌, None}
use Rattle.sector.specs.declared.size.SizeCode.{SizeCode}
use Rattle.check_code.specs.Code.{ecc_code}
use Rattle.check_code.specs.Aligned.{steps}
use Rattle.burst.specs.Search.{bits_of}
use Rattle.burst.proofs.Searching.{Back, Before}
use Rattle.burst.proofs.search.find_burst.Given as goal

abbrev pub invariant-search : goal.invariant-search
invariant-search l = record {
  none_found : l.found ≡ None;
  fits : (l.register < 2 ^ 32) × (l.next < 2 ^ 32);
  next_is : l.next ≡ steps ecc_code 16 l.register;
  passed : (size : SizeCode) → bits_of size ≡ l.bits
      → Back size l.difference l.pair l.register × Before size l.difference (16 * (16 * l.pair));
}

abbrev pub invariant-loop-bit : goal.invariant-loop-bit
invariant-loop-bit l = (l.found ≡ None) × ((size : SizeCode) → bits_of size ≡ l.bits → Before size l.difference (16 * (16 * l.pair + l.bit)))

abbrev pub invariant-loop-half : goal.invariant-loop-half
invariant-loop-half l = (l.found ≡ None) × ((size : SizeCode) → bits_of size ≡ l.bits → Before size l.difference (16 * l.first + l.half))
