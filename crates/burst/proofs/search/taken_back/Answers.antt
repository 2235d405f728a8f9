-- Nothing is made of no digit, and each digit more enters by the register of 1.
use Rattle.std.proofs.Common.{◌≡◌, ◌+◌, ◌-◌, ◌/◌, ◌^◌, ◌<◌, ◌∙◌, arith, rules}
use Rattle.check_code.specs.Code.{ecc_code}
use Rattle.check_code.proofs.Register.{steps_zero}
use Rattle.burst.specs.Search.{bits_of}
use Rattle.burst.proofs.Shift.{digit_more}
use Rattle.burst.proofs.search.taken_back.Goals as goal

pub loop-bit-init : goal.loop-bit-init
loop-bit-init c =
    let d = c.args.difference in
    let small : d < 2 ^ 32 = search rules in
    let none : 0 ≡ d / 2 ^ 32 = omega arith in
    steps_zero ecc_code (bits_of c.args.size - 20) ∙ none

pub loop-bit-preserved : goal.loop-bit-preserved
loop-bit-preserved c =
    let d = c.args.difference in
    let l = c.loop-bit in
    let one = c.one_taken_back-one in
    let small : d < 2 ^ 32 = search rules in
    let above : l.bit ≡ l.bit - 1 + 1 = omega (arith, c.loop-bit-test.true) in
    digit_more (bits_of c.args.size - 20) one.result l.register d (l.bit - 1) l.bit c.shift.result one.ensures small above
    l.invariant c.shift.ensures
