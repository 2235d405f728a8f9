-- The check is a remainder: the register's shifts are the steps of a division of polynomials.
use Rattle.std.proofs.Common.{◌≡◌, ℕ, zero, suc, ◌-◌, ◌*◌, ◌/◌, ◌^◌, ◌<◌, Bool, false, ◌&&◌, eqb, ltb, leb, length, sym, refl, ap, ◌∙◌, subst, ap₂, ⊎_elim, add-zero, mod-lt, mod-eq_of_lt, mul_assoc, mul_comm, pow-suc, mul-zero, zero-mul, mul-one, arith, pow_pos}
use mathlib.Core.Bool.{xor}
use lib.Bits.{bit_xor, xor_assoc, xor_self, xor_zero_r, xor_shifted}
use Rattle.std.specs.Int.{bit_at, from_bool}
use Rattle.std.proofs.lemmas.Bool.{cases_lt, le-leb, lt-leb, lt-ltb, le-ltb}
use Rattle.std.proofs.lemmas.Nat.Bits.{bit_at-zero, bit_at_above, bit_at_cat_low, bit_at_cat_high}
use Rattle.sector.specs.Bits.{BitSet, binary, ones_of, fed, first_bits}
use Rattle.sector.proofs.Fed.{digit_lt, binary_both, first_bits_lt, first_bits_at}
use Rattle.check_code.specs.Code.{Code, width, enter, remainder_of}
use Rattle.check_code.specs.Laws.{Sound}
use Rattle.check_code.specs.Division.{Polynomial, DegreeBelow, products, times, raised, CheckIsRemainder}
use Rattle.check_code.proofs.Register.{xor_swap, shl_xor, dbl_xor, enters_lt}

-- ---- numbers as polynomials
number_zero : (i : ℕ) → binary 0 i ≡ false
number_zero i = ap (λ x. eqb x 1) (bit_at-zero i)

number_below : (n v : ℕ) → v < 2 ^ n → DegreeBelow n (binary v)
number_below n v h i l = ap (λ x. eqb x 1) (bit_at_above v n i h l)

number_raised : (v n i : ℕ) → binary (v * 2 ^ n) i ≡ raised n (binary v) i
number_raised v n i =
    ap (λ x. binary x i) (sym (add-zero (v * 2 ^ n)))
    ∙ ⊎_elim
    (λ l. ap (λ x. eqb x 1) (bit_at_cat_low v n 0 i l) ∙ number_zero i ∙ sym (ap (λ t. t && binary v (i - n)) (lt-leb n i l)))
    (λ l. ap (λ x. eqb x 1) (bit_at_cat_high v n 0 i (pow_pos n) l) ∙ sym (ap (λ t. t && binary v (i - n)) (le-leb n i l)))
    (cases_lt i n)

-- a digit times a number
number_times : (g t i : ℕ) → t < 2 → binary (g * t) i ≡ (eqb t 1 && binary g i)
number_times g zero i h = ap (λ x. binary x i) (mul-zero g) ∙ number_zero i
number_times g (suc zero) i h = ap (λ x. binary x i) (mul-one g)
number_times g (suc (suc t)) i h = absurd (omega arith)

-- the first bits of a set, the first at the highest power
number_digits : (w : BitSet) (n i : ℕ) → binary (first_bits n w) i ≡ (ltb i n && w (n - suc i))
number_digits w n i =
    ⊎_elim
    (λ l.
    let e : i ≡ n - 1 - (n - suc i) = omega arith in
    ap (binary (first_bits n w)) e ∙ first_bits_at w n (n - suc i) (omega arith) ∙ sym (ap (λ t. t && w (n - suc i)) (lt-ltb i n l)))
    (λ l. number_below n (first_bits n w) (first_bits_lt w n) i l ∙ sym (ap (λ t. t && w (n - suc i)) (le-ltb i n l)))
    (cases_lt i n)

-- ---- sums
sum_assoc : (a b d : Bool) → xor (xor a b) d ≡ xor a (xor b d)
unfolding xor
sum_assoc a b d = grind arith

sum_comm : (a b : Bool) → xor a b ≡ xor b a
unfolding xor
sum_comm a b = grind arith

sum_none : (a : Bool) → xor a false ≡ a
unfolding xor
sum_none a = grind arith

-- ---- the product, one coefficient of the quotient after another
-- t + X q
abbrev next : Bool → Polynomial → Polynomial
next t q zero = t
next t q (suc i) = q i

products-next : (t : Bool) (q p : Polynomial) (n m : ℕ) → m < n → products (next t q) p n (suc m) ≡ xor (t && p n) (products q p (n - 1) m)
products-next t q p n zero h = refl
products-next t q p n (suc m) h =
    let e : n - suc (suc m) ≡ n - 1 - suc m = omega arith in
    ap₂ (λ a k. xor a (q (suc m) && p k)) (products-next t q p n m (omega arith)) e
    ∙ sum_assoc (t && p n) (products q p (n - 1) m) (q (suc m) && p (n - 1 - suc m))

times-next : (t : Bool) (q p : Polynomial) (i : ℕ) → times (next t q) p i ≡ xor (raised 1 (times q p) i) (t && p i)
times-next t q p zero = sym (sum_comm false (t && p 0) ∙ sum_none (t && p 0))
times-next t q p (suc i) =
    let e : suc i - 1 ≡ i = omega arith in
    products-next t q p (suc i) i (omega arith)
    ∙ sum_comm (t && p (suc i)) (products q p (suc i - 1) i)
    ∙ ap (λ a. xor a (t && p (suc i)))
    (ap (products q p (suc i - 1)) (sym e) ∙ sym (ap (λ b. b && times q p (suc i - 1)) (le-leb 1 (suc i) (omega arith))))

times_none : (p : Polynomial) (n m : ℕ) → products (λ i. false) p n m ≡ false
times_none p n zero = refl
times_none p n (suc m) = sum_none (products (λ i. false) p n m) ∙ times_none p n m

-- ---- the division, bit by bit
module _ (c : Code) (from : ℕ) (w : BitSet) where
  register : ℕ → ℕ
  register n = fed (enter c) from w n

  -- the register with the next bit beside its top, and what then falls out
  entered : ℕ → ℕ
  entered n = bit_xor (fed (enter c) from w n) (from_bool (w n) * 2 ^ c.top)

  fallen : ℕ → ℕ
  unfolding entered
  fallen n = bit_at (entered n) c.top

  fallen_lt : (n : ℕ) → fallen n < 2
  unfolding fallen entered
  fallen_lt n = mod-lt (entered n / 2 ^ c.top) (omega arith)

  quotient_of : ℕ → Polynomial
  quotient_of zero = λ i. false
  quotient_of (suc n) = next (eqb (fallen n) 1) (quotient_of n)

  quotient_below : (n : ℕ) → DegreeBelow n (quotient_of n)
  unfolding quotient_of
  quotient_below zero i l = refl
  quotient_below (suc n) zero l = absurd (omega arith)
  quotient_below (suc n) (suc i) l = quotient_below n i (omega arith)

  -- the multiple of the divisor, as a number
  multiple : ℕ → ℕ
  multiple zero = 0
  multiple (suc n) = bit_xor (2 * multiple n) (c.divisor * fallen n)

  multiple_is : (n i : ℕ) → binary (multiple n) i ≡ times (quotient_of n) (binary c.divisor) i
  unfolding multiple quotient_of
  multiple_is zero i = number_zero i ∙ sym (times_none (binary c.divisor) i i)
  multiple_is (suc n) i =
      binary_both (2 * multiple n) (c.divisor * fallen n) i
      ∙ ap₂ xor
      (ap (λ x. binary x i) (mul_comm 2 (multiple n)) ∙ number_raised (multiple n) 1 i ∙ ap (λ b. leb 1 i && b) (multiple_is n (i - 1)))
      (number_times c.divisor (fallen n) i (fallen_lt n))
      ∙ sym (times-next (eqb (fallen n) 1) (quotient_of n) (binary c.divisor) i)

  -- the start and the bits so far, each at its power
  dividend : ℕ → ℕ
  dividend n = bit_xor (from * 2 ^ n) (first_bits n w * 2 ^ width c)

  dividend_more : (n : ℕ) → dividend (suc n) ≡ 2 * bit_xor (dividend n) (from_bool (w n) * 2 ^ c.top)
  unfolding dividend
  dividend_more n =
      let x : ℕ = first_bits n w in
      let b : ℕ = from_bool (w n) in
      let twice : (y k : ℕ) → y * 2 ^ suc k ≡ 2 * (y * 2 ^ k) = λ y k. ap (λ z. y * z) (pow-suc 2 k) ∙ sym (mul_assoc y (2 ^ k) 2) ∙ mul_comm (y * 2 ^ k) 2 in
      ap₂ bit_xor (twice from n)
      (ap (λ y. y * 2 ^ width c) (sym (xor_shifted x 1 b (digit_lt (w n)))) ∙ shl_xor (x * 2) b (width c)
      ∙ ap₂ bit_xor (ap (λ y. y * 2 ^ width c) (mul_comm x 2) ∙ mul_assoc 2 x (2 ^ width c)) (twice b c.top))
      ∙ sym (xor_assoc (2 * (from * 2 ^ n)) (2 * (x * 2 ^ width c)) (2 * (b * 2 ^ c.top)))
      ∙ ap (λ y. bit_xor y (2 * (b * 2 ^ c.top))) (sym (dbl_xor (from * 2 ^ n) (x * 2 ^ width c)))
      ∙ sym (dbl_xor (dividend n) (b * 2 ^ c.top))

  divides : (n : ℕ) → dividend n ≡ bit_xor (multiple n) (register n)
  unfolding dividend multiple register entered fallen
  divides zero = ap (bit_xor (from * 1)) (zero-mul (2 ^ width c)) ∙ xor_zero_r (from * 1) ∙ mul-one from
  divides (suc n) =
      let v : ℕ = entered n in
      let m : ℕ = multiple n in
      let t : ℕ = c.divisor * fallen n in
      dividend_more n
      ∙ ap (λ x. 2 * x) (ap (λ x. bit_xor x (from_bool (w n) * 2 ^ c.top)) (divides n) ∙ xor_assoc m (register n) (from_bool (w n) * 2 ^ c.top))
      ∙ dbl_xor m v
      ∙ sym (xor_zero_r (bit_xor (2 * m) (2 * v))) ∙ ap (bit_xor (bit_xor (2 * m) (2 * v))) (sym (xor_self t))
      ∙ xor_swap (2 * m) (2 * v) t t

pub check_is_remainder : (c : Code) → Sound c → CheckIsRemainder c
unfolding dividend register
check_is_remainder c sound from bytes h =
    let n : ℕ = 8 * length bytes in
    let w : BitSet = ones_of bytes in
    let left : remainder_of c from bytes ≡ register c from w n = ap (λ v. fed (enter c) v w n) (mod-eq_of_lt h) in
    record {
      quotient = quotient_of c from w n;
      bounded = quotient_below c from w n;
      equation = λ i.
          ap₂ xor (sym (number_raised from n i))
          (ap (λ b. leb (width c) i && b) (sym (number_digits w n (i - width c))) ∙ sym (number_raised (first_bits n w) (width c) i))
          ∙ sym (binary_both (from * 2 ^ n) (first_bits n w * 2 ^ width c) i)
          ∙ ap (λ x. binary x i) (divides c from w n)
          ∙ binary_both (multiple c from w n) (register c from w n) i
          ∙ ap₂ xor (multiple_is c from w n i) (ap (λ x. binary x i) (sym left));
      smaller = subst (λ x. DegreeBelow (width c) (binary x)) (sym left) (number_below (width c) (register c from w n) (enters_lt c sound from h w n));
    }
