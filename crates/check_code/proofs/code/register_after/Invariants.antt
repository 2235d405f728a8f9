-- The register after the bytes so far: eight at a time, and then the rest one by one.
use Rattle.std.proofs.Common.{◌≡◌, ◌*◌}
use Rattle.sector.specs.Bits.{ones_of, fed}
use Rattle.check_code.specs.Code.{enter}
use Rattle.check_code.specs.Aligned.{aligned}
use Rattle.check_code.proofs.code.register_after.Given as goal

abbrev pub invariant-loop-eight : goal.invariant-loop-eight
invariant-loop-eight g l = l.register ≡ fed (enter (aligned g.C.CheckCode.code)) l.initial.register (ones_of l.bytes) (64 * l.eight-index)

abbrev pub invariant-loop-byte : goal.invariant-loop-byte
invariant-loop-byte g l = l.register ≡ fed (enter (aligned g.C.CheckCode.code)) l.initial.register (ones_of l.rest) (8 * l.byte-index)
