-- The register so far is that of the difference's digits from `bit` on.
use Rattle.std.proofs.Common.{◌≡◌, ◌-◌, ◌/◌, ◌^◌}
use Rattle.check_code.specs.Code.{ecc_code}
use Rattle.check_code.specs.Aligned.{steps}
use Rattle.burst.specs.Search.{bits_of}
use Rattle.burst.proofs.search.taken_back.Given as goal

abbrev pub invariant-loop-bit : goal.invariant-loop-bit
invariant-loop-bit l = steps ecc_code (bits_of l.fn.size - 20) l.register ≡ l.difference / 2 ^ l.bit
