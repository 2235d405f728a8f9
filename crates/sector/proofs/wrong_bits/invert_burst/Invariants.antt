-- After k turns the burst's bits below first + k are inverted.
use Rattle.std.proofs.Common.{◌≡◌, ◌+◌, ◌&&◌, ltb}
use Rattle.sector.specs.Bits.{inverted, set_of, from_bit}
use Rattle.sector.proofs.wrong_bits.invert_burst.Given as goal

abbrev pub invariant-loop-k : goal.invariant-loop-k
invariant-loop-k l = l.part ≡ inverted (from_bit l.start (λ i. ltb i (l.burst.first + l.k) && set_of l.burst i)) l.initial.part
