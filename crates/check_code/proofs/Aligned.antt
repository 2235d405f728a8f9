-- A register at the top of 32 bits holds what the code's own register holds, moved up.
use Rattle.std.proofs.Common.{◌≡◌, ℕ, zero, suc, ◌+◌, ◌-◌, ◌*◌, ◌/◌, ◌%◌, ◌^◌, ◌≤◌, Bool, sym, refl, ap, ◌∙◌, ap₂, add-zero, mul_assoc, mul_comm, arith, pow_pos, pow-add}
use native.Mathlib.Nat.{mul-div-mul_right, mul-mod_left}
use lib.Bits.{bit_xor}
use lib.Pow.{mod-pow-add, shl-shr}
use Rattle.std.specs.Int.{bit_at, from_bool}
use Rattle.sector.specs.Bits.{BitSet, fed}
use Rattle.check_code.specs.Code.{Code, width, step, enter}
use Rattle.check_code.specs.Aligned.{aligned}
use Rattle.check_code.proofs.Register.{shl_xor}

-- a factor in the middle goes last
swap_last : (a b p : ℕ) → a * p * b ≡ a * b * p
swap_last a b p = mul_assoc a p b ∙ ap (λ x. a * x) (mul_comm p b) ∙ sym (mul_assoc a b p)

module _ (c : Code) (most : width c ≤ 32) where
  pub step-aligned : (v : ℕ) → step (aligned c) (v * 2 ^ (32 - width c)) ≡ step c v * 2 ^ (32 - width c)
  step-aligned v =
      let u : ℕ = 32 - width c in
      let e : 31 ≡ c.top + u = omega arith in
      let top : v * 2 ^ u / 2 ^ 31 ≡ v / 2 ^ c.top =
      ap (λ x. v * 2 ^ u / x) (ap (λ m. 2 ^ m) e ∙ pow-add 2 c.top u) ∙ mul-div-mul_right v (2 ^ c.top) (pow_pos u) in
      ap₂ bit_xor (sym (mul_assoc 2 v (2 ^ u))) (ap (λ x. c.divisor * 2 ^ u * (x % 2)) top ∙ swap_last c.divisor (bit_at v c.top) (2 ^ u))
      ∙ sym (shl_xor (2 * v) (c.divisor * (bit_at v c.top)) u)

  enter-aligned : (v : ℕ) (b : Bool) → enter (aligned c) (v * 2 ^ (32 - width c)) b ≡ enter c v b * 2 ^ (32 - width c)
  enter-aligned v b =
      let u : ℕ = 32 - width c in
      let d : ℕ = from_bool b in
      let e : 31 ≡ c.top + u = omega arith in
      let bit : d * 2 ^ 31 ≡ d * 2 ^ c.top * 2 ^ u = ap (λ x. d * x) (ap (λ m. 2 ^ m) e ∙ pow-add 2 c.top u) ∙ sym (mul_assoc d (2 ^ c.top) (2 ^ u)) in
      ap (step (aligned c)) (ap (bit_xor (v * 2 ^ u)) bit ∙ sym (shl_xor v (d * 2 ^ c.top) u)) ∙ step-aligned (bit_xor v (d * 2 ^ c.top))

  fed-aligned : (v : ℕ) (w : BitSet) (n : ℕ) → fed (enter (aligned c)) (v * 2 ^ (32 - width c)) w n ≡ fed (enter c) v w n * 2 ^ (32 - width c)
  fed-aligned v w zero = refl
  fed-aligned v w (suc n) = ap (λ x. enter (aligned c) x (w n)) (fed-aligned v w n) ∙ enter-aligned (fed (enter c) v w n) (w n)

  moved_up : (from : ℕ) → from * 2 ^ (32 - width c) % 2 ^ 32 ≡ from % 2 ^ width c * 2 ^ (32 - width c)
  moved_up from =
      let u : ℕ = 32 - width c in
      let e : 32 ≡ width c + u = omega arith in
      ap (λ m. from * 2 ^ u % 2 ^ m) e ∙ mod-pow-add (from * 2 ^ u) (width c) u
      ∙ ap₂ (λ x y. x % 2 ^ width c * 2 ^ u + y) (shl-shr from u) (mul-mod_left from (2 ^ u)) ∙ add-zero (from % 2 ^ width c * 2 ^ u)

  -- the remainder, moved up
  pub remainder_aligned : (from : ℕ) (w : BitSet) (n : ℕ)
      → fed (enter (aligned c)) (from * 2 ^ (32 - width c) % 2 ^ 32) w n ≡ fed (enter c) (from % 2 ^ width c) w n * 2 ^ (32 - width c)
  remainder_aligned from w n = ap (λ x. fed (enter (aligned c)) x w n) (moved_up from) ∙ fed-aligned (from % 2 ^ width c) w n
