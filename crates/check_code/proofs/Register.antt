-- The register: its shift is linear, keeps its width and loses nothing; bits that enter at the top or at the bottom.
use Rattle.std.specs.Prelude.{◌≡◌, ℕ, zero, suc, ◌+◌, ◌-◌, ◌*◌, ◌/◌, ◌%◌, ◌^◌, ◌<◌, ◌≤◌, Bool, true, false, bit_xor, refl}
use Rattle.std.specs.Int.{bit_at, from_bool}
use Rattle.std.specs.Int.Bits.{xor_assoc, xor_zero_r, xor_self, xor_shifted, xor_add_and}
use Rattle.std.proofs.Common.{sym, ap, ap₂, ◌∙◌, ⊎_elim, add-zero, add-suc, mul_comm, mul-zero, zero-mul, mul-one, one-mul, zero-add, mul_assoc, pow-suc, mod-lt, arith, pow_pos, pow_mono, pow-add}
use Rattle.std.proofs.Math.Nat.{div-eq_of_lt}
use Rattle.std.proofs.lemmas.Nat.{xor_block, xor_comm, xor_lt, xor_shr, xor_mod, and_le_l, and_le_r}
use Rattle.std.proofs.Math.Pow.{high}
use Rattle.std.proofs.lemmas.Bool.{cases_lt}
use Rattle.sector.specs.Bits.{BitSet, from_bit, fed, first_bits}
use Rattle.sector.proofs.Fed.{digit_lt, digit_both, Linear, fed_add, fed_none, first_bits_lt}
use Rattle.check_code.specs.Code.{Code, width, step, enter, balance}
use Rattle.check_code.specs.Laws.{Sound}
use Rattle.check_code.specs.Aligned.{steps}

-- ---- xor
pub xor_swap : (a b c d : ℕ) → bit_xor (bit_xor a b) (bit_xor c d) ≡ bit_xor (bit_xor a c) (bit_xor b d)
xor_swap a b c d =
    xor_assoc a b (bit_xor c d) ∙ ap (bit_xor a) (sym (xor_assoc b c d) ∙ ap (λ x. bit_xor x d) (xor_comm b c) ∙ xor_assoc c b d)
    ∙ sym (xor_assoc a c (bit_xor b d))

pub shl_xor : (a b k : ℕ) → bit_xor a b * 2 ^ k ≡ bit_xor (a * 2 ^ k) (b * 2 ^ k)
shl_xor a b k =
    sym (ap₂ bit_xor (sym (add-zero (a * 2 ^ k))) (sym (add-zero (b * 2 ^ k)))
    ∙ xor_block k a b 0 0 (pow_pos k) (pow_pos k) ∙ add-zero (bit_xor a b * 2 ^ k))

pub dbl_xor : (a b : ℕ) → 2 * bit_xor a b ≡ bit_xor (2 * a) (2 * b)
dbl_xor a b = mul_comm 2 (bit_xor a b) ∙ shl_xor a b 1 ∙ ap₂ bit_xor (mul_comm a 2) (mul_comm b 2)

-- equal where the difference is none
pub xor_none : (a b : ℕ) → bit_xor a b ≡ 0 → a ≡ b
xor_none a b e = omega (arith, xor_add_and a b, and_le_l a b, and_le_r a b)

-- a digit times a number, added
bit_mul : (g x y : ℕ) → x < 2 → y < 2 → g * bit_xor x y ≡ bit_xor (g * x) (g * y)
bit_mul g zero y hx hy = sym (ap (λ z. bit_xor z (g * y)) (mul-zero g))
bit_mul g (suc zero) zero hx hy = sym (ap (bit_xor (g * 1)) (mul-zero g) ∙ xor_zero_r (g * 1))
bit_mul g (suc zero) (suc zero) hx hy = mul-zero g ∙ sym (xor_self (g * 1))
bit_mul g (suc zero) (suc (suc y)) hx hy = omega arith
bit_mul g (suc (suc x)) y hx hy = omega arith

top_lt : (b : Bool) (k : ℕ) → from_bool b * 2 ^ k < 2 ^ suc k
top_lt false k = omega (arith, zero-mul (2 ^ k), pow_pos (suc k))
top_lt true k = omega (arith, one-mul (2 ^ k), pow-suc 2 k, pow_pos k)

-- the register when a bit enters at the bottom: the remainder of the bits themselves
abbrev pub below : Code → ℕ → Bool → ℕ
below c v b = bit_xor (step c v) (from_bool b)

module _ (c : Code) where
  top_xor : (a b : ℕ) → bit_at (bit_xor a b) c.top ≡ bit_xor (bit_at a c.top) (bit_at b c.top)
  top_xor a b = ap (λ x. x % 2) (xor_shr a b c.top) ∙ xor_mod (a / 2 ^ c.top) (b / 2 ^ c.top) 1

  -- ---- shifts
  pub step_xor : (a b : ℕ) → step c (bit_xor a b) ≡ bit_xor (step c a) (step c b)
  step_xor a b =
      ap₂ bit_xor (dbl_xor a b)
      (ap (λ x. c.divisor * x) (top_xor a b)
      ∙ bit_mul c.divisor (bit_at a c.top) (bit_at b c.top) (mod-lt (a / 2 ^ c.top) (omega arith)) (mod-lt (b / 2 ^ c.top) (omega arith)))
      ∙ xor_swap (2 * a) (2 * b) (c.divisor * bit_at a c.top) (c.divisor * bit_at b c.top)

  pub steps_xor : (n a b : ℕ) → steps c n (bit_xor a b) ≡ bit_xor (steps c n a) (steps c n b)
  steps_xor zero a b = refl
  steps_xor (suc n) a b = ap (steps c n) (step_xor a b) ∙ steps_xor n (step c a) (step c b)

  pub step_small : (v : ℕ) → v < 2 ^ c.top → step c v ≡ 2 * v
  step_small v h = ap (λ x. bit_xor (2 * v) (c.divisor * (x % 2))) (div-eq_of_lt h) ∙ ap (bit_xor (2 * v)) (mul-zero c.divisor) ∙ xor_zero_r (2 * v)

  pub steps_zero : (n : ℕ) → steps c n 0 ≡ 0
  steps_zero zero = refl
  steps_zero (suc n) = ap (steps c n) (step_small 0 (pow_pos c.top)) ∙ steps_zero n

  pub steps_more : (n v : ℕ) → steps c (suc n) v ≡ step c (steps c n v)
  steps_more zero v = refl
  steps_more (suc n) v = steps_more n (step c v)

  pub steps_add : (n m v : ℕ) → steps c (n + m) v ≡ steps c n (steps c m v)
  steps_add n zero v = ap (λ x. steps c x v) (add-zero n)
  steps_add n (suc m) v = ap (λ x. steps c x v) (add-suc n m) ∙ steps_add n m (step c v)

  -- as long as nothing falls out, a shift doubles
  pub steps_small : (m v : ℕ) → v * 2 ^ m < 2 ^ width c → steps c m v ≡ v * 2 ^ m
  steps_small zero v h = sym (mul-one v)
  steps_small (suc m) v h =
      let e : v * 2 ^ suc m ≡ 2 * (v * 2 ^ m) = ap (λ x. v * x) (pow-suc 2 m) ∙ sym (mul_assoc v (2 ^ m) 2) ∙ mul_comm (v * 2 ^ m) 2 in
      let p : 2 ^ width c ≡ 2 ^ c.top * 2 = pow-suc 2 c.top in
      let small : v * 2 ^ m < 2 ^ c.top = omega arith in
      steps_more m v ∙ ap (step c) (steps_small m v (omega arith)) ∙ step_small (v * 2 ^ m) small ∙ sym e

  -- ---- bits that enter
  pub enter_linear : Linear (enter c)
  enter_linear v u a b =
      ap (λ x. step c (bit_xor (bit_xor v u) (x * 2 ^ c.top))) (sym (digit_both a b))
      ∙ ap (step c) (ap (bit_xor (bit_xor v u)) (shl_xor (from_bool a) (from_bool b) c.top) ∙ xor_swap v u (from_bool a * 2 ^ c.top) (from_bool b * 2 ^ c.top))
      ∙ step_xor (bit_xor v (from_bool a * 2 ^ c.top)) (bit_xor u (from_bool b * 2 ^ c.top))

  -- digits enter at once, beside the register's top ones
  pub enter_digits : (v : ℕ) (w : BitSet) (m : ℕ) → m ≤ width c → fed (enter c) v w m ≡ steps c m (bit_xor v (first_bits m w * 2 ^ (width c - m)))
  enter_digits v w zero l = sym (ap (bit_xor v) (zero-mul (2 ^ (width c - 0))) ∙ xor_zero_r v)
  enter_digits v w (suc m) l =
      let d : ℕ = first_bits m w in
      let b : ℕ = from_bool (w m) in
      let k : ℕ = width c - suc m in
      let up : width c - m ≡ 1 + k = omega arith in
      let high : d * 2 ^ (width c - m) ≡ d * 2 * 2 ^ k = ap (λ x. d * x) (ap (λ i. 2 ^ i) up ∙ pow-add 2 1 k) ∙ sym (mul_assoc d 2 (2 ^ k)) in
      let e : c.top ≡ k + m = omega arith in
      let low : b * 2 ^ c.top ≡ b * 2 ^ k * 2 ^ m = ap (λ x. b * x) (ap (λ i. 2 ^ i) e ∙ pow-add 2 k m) ∙ sym (mul_assoc b (2 ^ k) (2 ^ m)) in
      let fit : b * 2 ^ k * 2 ^ m < 2 ^ width c = omega (arith, low, top_lt (w m) c.top) in
      ap₂ (λ x y. step c (bit_xor x y)) (enter_digits v w m (omega arith)) (low ∙ sym (steps_small m (b * 2 ^ k) fit))
      ∙ ap (step c) (sym (steps_xor m (bit_xor v (d * 2 ^ (width c - m))) (b * 2 ^ k)))
      ∙ sym (steps_more m (bit_xor (bit_xor v (d * 2 ^ (width c - m))) (b * 2 ^ k)))
      ∙ ap (steps c (suc m))
      (xor_assoc v (d * 2 ^ (width c - m)) (b * 2 ^ k)
      ∙ ap (bit_xor v) (ap (λ x. bit_xor x (b * 2 ^ k)) high ∙ sym (shl_xor (d * 2) b k) ∙ ap (λ x. x * 2 ^ k) (xor_shifted d 1 b (digit_lt (w m)))))

  -- what a register makes of bits that enter at the bottom stands beside what the bits leave by themselves
  pub below_apart : (v : ℕ) (w : BitSet) (m : ℕ) → fed (below c) v w m ≡ bit_xor (steps c m v) (fed (below c) 0 w m)
  below_apart v w zero = sym (xor_zero_r v)
  below_apart v w (suc m) =
      ap (λ x. bit_xor (step c x) (from_bool (w m))) (below_apart v w m)
      ∙ ap (λ x. bit_xor x (from_bool (w m))) (step_xor (steps c m v) (fed (below c) 0 w m) ∙ ap (λ x. bit_xor x (step c (fed (below c) 0 w m))) (sym (steps_more m v)))
      ∙ xor_assoc (steps c (suc m) v) (step c (fed (below c) 0 w m)) (from_bool (w m))

  pub below_zero : below c 0 false ≡ 0
  below_zero = xor_zero_r (step c 0) ∙ step_small 0 (pow_pos c.top)

  pub below_none : (v m : ℕ) → fed (below c) v (λ i. false) m ≡ steps c m v
  below_none v m = below_apart v (λ i. false) m ∙ ap (bit_xor (steps c m v)) (fed_none (below c) below_zero (λ i. false) m (λ i l. refl)) ∙ xor_zero_r (steps c m v)

  pub below_digits : (w : BitSet) (m : ℕ) → m ≤ width c → fed (below c) 0 w m ≡ first_bits m w
  below_digits w zero l = refl
  below_digits w (suc m) l =
      let up : 2 ^ m ≤ 2 ^ c.top = pow_mono (omega arith) in
      let small : first_bits m w < 2 ^ c.top = omega (arith, first_bits_lt w m) in
      ap (λ x. bit_xor (step c x) (from_bool (w m))) (below_digits w m (omega arith))
      ∙ ap (λ x. bit_xor x (from_bool (w m))) (step_small (first_bits m w) small ∙ mul_comm 2 (first_bits m w))
      ∙ xor_shifted (first_bits m w) 1 (from_bool (w m)) (digit_lt (w m))

  -- the register that bits enter at the top is the one they enter at the bottom, a whole register's shifts on
  pub enter_below : (w : BitSet) (n : ℕ) → fed (enter c) 0 w n ≡ steps c (width c) (fed (below c) 0 w n)
  enter_below w zero = sym (steps_zero (width c))
  enter_below w (suc n) =
      let x : ℕ = fed (below c) 0 w n in
      let b : ℕ = from_bool (w n) in
      ap (λ y. step c (bit_xor y (b * 2 ^ c.top))) (enter_below w n)
      ∙ step_xor (steps c (width c) x) (b * 2 ^ c.top)
      ∙ ap₂ bit_xor (sym (steps_more (width c) x)) (ap (step c) (sym (steps_small c.top b (top_lt (w n) c.top))) ∙ sym (steps_more c.top b))
      ∙ sym (steps_xor (width c) (step c x) b)

  pub balance_below : (w : BitSet) (n : ℕ) → balance c 0 w n ≡ fed (below c) 0 w (8 * n + width c)
  balance_below w n =
      let x : ℕ = fed (below c) 0 w (8 * n) in
      ap₂ bit_xor (enter_below w (8 * n)) (sym (below_digits (from_bit (8 * n) w) (width c) (omega arith)))
      ∙ sym (below_apart x (from_bit (8 * n) w) (width c))
      ∙ sym (fed_add (below c) 0 w (8 * n) (width c))

module _ (c : Code) (sound : Sound c) where
  pub step_high : (v : ℕ) → 2 ^ c.top ≤ v → v < 2 ^ width c → step c v ≡ bit_xor (2 * v) c.divisor
  step_high v l h =
      let p : 2 ^ width c ≡ 2 ^ c.top * 2 = pow-suc 2 c.top in
      let q : v ≡ 1 * 2 ^ c.top + (v - 2 ^ c.top) = omega arith in
      let r : v - 2 ^ c.top < 2 ^ c.top = omega arith in
      let d : v / 2 ^ c.top ≡ 1 = ap (λ x. x / 2 ^ c.top) q ∙ high 1 c.top r in
      ap (λ x. bit_xor (2 * v) (c.divisor * (x % 2))) d ∙ ap (bit_xor (2 * v)) (mul-one c.divisor)

  pub step_lt : (v : ℕ) → v < 2 ^ width c → step c v < 2 ^ width c
  step_lt v h =
      let g : ℕ = c.divisor in
      let lo = sound.low in
      let hi = sound.high in
      let p : 2 ^ width c ≡ 2 ^ c.top * 2 = pow-suc 2 c.top in
      let pp : 2 ^ suc (width c) ≡ 2 ^ width c * 2 = pow-suc 2 (width c) in
      ⊎_elim (λ l. let e : step c v ≡ 2 * v = step_small c v l in omega arith)
      (λ l.
      let a : 2 * v ≡ 1 * 2 ^ width c + (2 * v - 2 ^ width c) = omega arith in
      let b : g ≡ 1 * 2 ^ width c + (g - 2 ^ width c) = omega arith in
      let al : 2 * v - 2 ^ width c < 2 ^ width c = omega arith in
      let bl : g - 2 ^ width c < 2 ^ width c = omega arith in
      let e : step c v ≡ bit_xor (2 * v - 2 ^ width c) (g - 2 ^ width c) =
      step_high v l h ∙ ap₂ bit_xor a b ∙ xor_block (width c) 1 1 (2 * v - 2 ^ width c) (g - 2 ^ width c) al bl
      ∙ ap (λ x. x + bit_xor (2 * v - 2 ^ width c) (g - 2 ^ width c)) (zero-mul (2 ^ width c)) ∙ zero-add (bit_xor (2 * v - 2 ^ width c) (g - 2 ^ width c)) in
      omega (arith, e, xor_lt (width c) (2 * v - 2 ^ width c) (g - 2 ^ width c) al bl))
      (cases_lt v (2 ^ c.top))

  step_kernel : (v : ℕ) → v < 2 ^ width c → step c v ≡ 0 → v ≡ 0
  step_kernel v h e =
      ⊎_elim (λ l. omega (arith, step_small c v l))
      (λ l. let q : 2 * v ≡ c.divisor = xor_none (2 * v) c.divisor (sym (step_high v l h) ∙ e) in omega (arith, sound.odd)) (cases_lt v (2 ^ c.top))

  pub step_same : (v u : ℕ) → v < 2 ^ width c → u < 2 ^ width c → step c v ≡ step c u → v ≡ u
  step_same v u hv hu e =
      xor_none v u (step_kernel (bit_xor v u) (xor_lt (width c) v u hv hu) (step_xor c v u ∙ ap (λ x. bit_xor x (step c u)) e ∙ xor_self (step c u)))

  pub steps_lt : (n v : ℕ) → v < 2 ^ width c → steps c n v < 2 ^ width c
  steps_lt zero v h = h
  steps_lt (suc n) v h = steps_lt n (step c v) (step_lt v h)

  pub steps_same : (n v u : ℕ) → v < 2 ^ width c → u < 2 ^ width c → steps c n v ≡ steps c n u → v ≡ u
  steps_same zero v u hv hu e = e
  steps_same (suc n) v u hv hu e = step_same v u hv hu (steps_same n (step c v) (step c u) (step_lt v hv) (step_lt u hu) e)

  pub below_lt : (w : BitSet) (n : ℕ) → fed (below c) 0 w n < 2 ^ width c
  below_lt w zero = pow_pos (width c)
  below_lt w (suc n) =
      let p : 2 ^ 1 ≤ 2 ^ width c = pow_mono {i = 1} {j = width c} (omega arith) in
      xor_lt (width c) (step c (fed (below c) 0 w n)) (from_bool (w n)) (step_lt (fed (below c) 0 w n) (below_lt w n)) (omega (arith, digit_lt (w n)))

  pub enters_lt : (v : ℕ) → v < 2 ^ width c → (w : BitSet) (n : ℕ) → fed (enter c) v w n < 2 ^ width c
  enters_lt v h w zero = h
  enters_lt v h w (suc n) =
      let b : ℕ = from_bool (w n) * 2 ^ c.top in
      step_lt (bit_xor (fed (enter c) v w n) b) (xor_lt (width c) (fed (enter c) v w n) b (enters_lt v h w n) (top_lt (w n) c.top))
