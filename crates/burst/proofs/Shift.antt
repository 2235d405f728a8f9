-- The shift as code computes it, one or sixteen at once; a number taken back digit by digit; and a pattern mirrored.
use Rattle.std.proofs.Common.{◌≡◌, ℕ, zero, suc, ◌+◌, ◌*◌, ◌/◌, ◌%◌, ◌^◌, ◌<◌, ◌≤◌, true, eqb, sym, refl, ap, ◌∙◌, ap₂, mod-eq_of_lt, mod-lt, mul_comm, mul-zero, mul-one, shr-shr, arith, pow_pos}
use Rattle.std.proofs.Math.Nat.{div-le_self}
use lib.Bits.{bit_xor, xor_comm, xor_mod, xor_shifted}
use lib.Pow.{split}
use Rattle.std.specs.Int.{bit_at, reverse_bits, reverse_bits_onto, w8}
use Rattle.std.proofs.lemmas.Bool.{eqb-true, agree_below_at}
use Rattle.std.proofs.lemmas.Nat.Bits.{bit_at-lt}
use Rattle.check_code.specs.Code.{step, ecc_code}
use Rattle.check_code.specs.Aligned.{steps, aligned}
use Rattle.check_code.specs.Sound.{ecc_sound}
use Rattle.check_code.proofs.Register.{step_lt, step_small, steps_add, steps_small, steps_xor, steps_zero, steps_more}
use Rattle.burst.proofs.Patterns.{mirror}

-- what falls out of 32 bits is what the polynomial's first term takes away
pub shift_is : (v : ℕ) → v < 2 ^ 32 → bit_xor (v * 2 % 2 ^ 32) (0x140a_0445 * (v / 2 ^ 31)) ≡ step ecc_code v
shift_is v h =
    let low : 0x140a_0445 * (v / 2 ^ 31) ≡ ecc_code.divisor * bit_at v 31 % 2 ^ 32 = omega arith in
    ap₂ bit_xor (ap (λ x. x % 2 ^ 32) (mul_comm v 2)) low
    ∙ sym (xor_mod (2 * v) (ecc_code.divisor * bit_at v 31) 32)
    ∙ mod-eq_of_lt (step_lt ecc_code ecc_sound v h)

-- the low two bytes move up, and the upper two are shifted as far as if they had stood below them
pub two_bytes_is : (v : ℕ) → v < 2 ^ 32 → bit_xor (v * 2 ^ 16 % 2 ^ 32) (steps (aligned ecc_code) 32 (v / 2 ^ 16)) ≡ steps ecc_code 16 v
two_bytes_is v h =
    let hi : ℕ = v / 2 ^ 16 in
    let lo : ℕ = v % 2 ^ 16 in
    let low : lo < 2 ^ 16 = mod-lt v (pow_pos 16) in
    let left : v * 2 ^ 16 % 2 ^ 32 ≡ lo * 2 ^ 16 = omega arith in
    let both : bit_xor (hi * 2 ^ 16) lo ≡ v = xor_shifted hi 16 lo low ∙ split v 16 in
    ap₂ bit_xor (left ∙ sym (steps_small ecc_code 16 lo (omega arith)))
    (steps_add ecc_code 16 16 hi ∙ ap (steps ecc_code 16) (steps_small ecc_code 16 hi (omega arith)))
    ∙ xor_comm (steps ecc_code 16 lo) (steps ecc_code 16 (hi * 2 ^ 16))
    ∙ sym (steps_xor ecc_code 16 (hi * 2 ^ 16) lo) ∙ ap (steps ecc_code 16) both

-- one more binary digit of a number, taken back
pub digit_more : (n one r d k above next : ℕ) → steps ecc_code n one ≡ 1 → d < 2 ^ 32 → above ≡ k + 1
    → steps ecc_code n r ≡ d / 2 ^ above → next ≡ step ecc_code r → steps ecc_code n (bit_xor next (one * bit_at d k)) ≡ d / 2 ^ k
digit_more n one r d k above next is h up_is back e =
    let b : ℕ = bit_at d k in
    let up : ℕ = d / 2 ^ above in
    let half : up ≡ d / 2 ^ k / 2 = ap (λ m. d / 2 ^ m) up_is ∙ sym (shr-shr d k 1) in
    let least : d / 2 ^ k ≤ d = div-le_self d (2 ^ k) in
    let bl : b < 2 = bit_at-lt d k in
    steps_xor ecc_code n next (one * b)
    ∙ ap₂ bit_xor
    (ap (steps ecc_code n) e ∙ steps_more ecc_code n r ∙ ap (step ecc_code) back ∙ step_small ecc_code up (omega arith) ∙ mul_comm 2 up)
    (digit_times n one b is bl)
    ∙ xor_shifted up 1 b bl ∙ omega arith
  where
    digit_times : (n one b : ℕ) → steps ecc_code n one ≡ 1 → b < 2 → steps ecc_code n (one * b) ≡ b
    digit_times n one zero is l = ap (steps ecc_code n) (mul-zero one) ∙ steps_zero ecc_code n
    digit_times n one (suc zero) is l = ap (steps ecc_code n) (mul-one one) ∙ is
    digit_times n one (suc (suc b)) is l = absurd (omega arith)

-- the five lowest digits, in the other order
pub mirror_is : (p : ℕ) → p < 256 → reverse_bits w8 p / 8 ≡ mirror p
unfolding reverse_bits_onto
mirror_is p h = eqb-true _ _ (agree_below_at (λ p. eqb (reverse_bits w8 p / 8) (mirror p)) (λ p. true) 256 p refl h)
