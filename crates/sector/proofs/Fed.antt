-- Numbers that are fed bits: equal sets, sets one after another, and sums; and the number that a set's first bits make.
use Rattle.std.proofs.Common.{◌≡◌, ℕ, zero, suc, ◌+◌, ◌-◌, ◌*◌, ◌/◌, ◌%◌, ◌^◌, ◌<◌, Bool, true, false, eqb, sym, refl, ap, ◌∙◌, ap₂, arith, add-zero, add-suc, mul_assoc, pow-suc}
use lib.Pow.{high}
use lib.Bits.{bit_xor, xor_block}
use Rattle.std.proofs.lemmas.Nat.Bits.{bit_at_xor, bit_at-lt}
use Rattle.std.proofs.lemmas.Bool.{eq-eqb, ne_eqb}
use mathlib.Core.Bool.{xor}
use Rattle.std.specs.Int.{bit_at, from_bool}
use Rattle.sector.specs.Bits.{BitSet, binary, both_of, from_bit, fed, first_bits}

-- ---- digits
pub digit_lt : (b : Bool) → from_bool b < 2
digit_lt true = omega arith
digit_lt false = omega arith

pub digit_both : (a b : Bool) → bit_xor (from_bool a) (from_bool b) ≡ from_bool (xor a b)
unfolding xor
digit_both true true = refl
digit_both true false = refl
digit_both false true = refl
digit_both false false = refl

pub binary_both : (a b i : ℕ) → binary (bit_xor a b) i ≡ xor (binary a i) (binary b i)
unfolding xor
binary_both a b i = ap (λ x. eqb x 1) (bit_at_xor a b i) ∙ sum (bit_at a i) (bit_at b i) (bit_at-lt a i) (bit_at-lt b i)
  where
    sum : (x y : ℕ) → x < 2 → y < 2 → eqb ((x + y) % 2) 1 ≡ xor (eqb x 1) (eqb y 1)
    sum zero zero l m = refl
    sum zero (suc zero) l m = refl
    sum (suc zero) zero l m = refl
    sum (suc zero) (suc zero) l m = refl
    sum x (suc (suc y)) l m = absurd (omega arith)
    sum (suc (suc x)) y l m = absurd (omega arith)

-- ---- whatever is done with each bit
module _ (f : ℕ → Bool → ℕ) where
  pub fed_cong : (v : ℕ) (w u : BitSet) (n : ℕ) → ((i : ℕ) → i < n → w i ≡ u i) → fed f v w n ≡ fed f v u n
  fed_cong v w u zero h = refl
  fed_cong v w u (suc n) h = ap₂ f (fed_cong v w u n (λ i l. h i (omega arith))) (h n (omega arith))

  pub fed_add : (v : ℕ) (w : BitSet) (n m : ℕ) → fed f v w (n + m) ≡ fed f (fed f v w n) (λ j. w (n + j)) m
  fed_add v w n zero = ap (fed f v w) (add-zero n)
  fed_add v w n (suc m) = ap (fed f v w) (add-suc n m) ∙ ap (λ x. f x (w (n + m))) (fed_add v w n m)

  pub fed_none : f 0 false ≡ 0 → (w : BitSet) (n : ℕ) → ((i : ℕ) → i < n → w i ≡ false) → fed f 0 w n ≡ 0
  fed_none z w zero h = refl
  fed_none z w (suc n) h = ap₂ f (fed_none z w n (λ i l. h i (omega arith))) (h n (omega arith)) ∙ z

-- what is done with a bit goes through sums
abbrev pub Linear : (ℕ → Bool → ℕ) → Type 0
Linear f = (v u : ℕ) (a b : Bool) → f (bit_xor v u) (xor a b) ≡ bit_xor (f v a) (f u b)

pub fed_both : (f : ℕ → Bool → ℕ) → Linear f → (v u : ℕ) (w t : BitSet) (n : ℕ) → fed f (bit_xor v u) (both_of w t) n ≡ bit_xor (fed f v w n) (fed f u t n)
fed_both f h v u w t zero = refl
fed_both f h v u w t (suc n) = ap (λ x. f x (xor (w n) (t n))) (fed_both f h v u w t n) ∙ h (fed f v w n) (fed f u t n) (w n) (t n)

-- ---- the number that first bits make
pub first_bits_cong : (w u : BitSet) (n : ℕ) → ((i : ℕ) → i < n → w i ≡ u i) → first_bits n w ≡ first_bits n u
first_bits_cong = fed_cong (λ v b. v * 2 + from_bool b) 0

pub first_bits_none : (w : BitSet) (n : ℕ) → ((i : ℕ) → i < n → w i ≡ false) → first_bits n w ≡ 0
first_bits_none = fed_none (λ v b. v * 2 + from_bool b) refl

pub first_bits_both : (w u : BitSet) (n : ℕ) → bit_xor (first_bits n w) (first_bits n u) ≡ first_bits n (both_of w u)
first_bits_both w u n =
    sym (fed_both (λ v b. v * 2 + from_bool b)
    (λ v u a b. sym (xor_block 1 v u (from_bool a) (from_bool b) (digit_lt a) (digit_lt b) ∙ ap (λ d. bit_xor v u * 2 + d) (digit_both a b))) 0 0 w u n)

pub first_bits_lt : (w : BitSet) (n : ℕ) → first_bits n w < 2 ^ n
first_bits_lt w zero = omega arith
first_bits_lt w (suc n) = omega (arith, pow-suc 2 n, first_bits_lt w n, digit_lt (w n))

pub first_bits_add : (w : BitSet) (n m : ℕ) → first_bits (n + m) w ≡ first_bits n w * 2 ^ m + first_bits m (from_bit n w)
first_bits_add w n zero = ap (λ k. first_bits k w) (add-zero n) ∙ omega arith
first_bits_add w n (suc m) =
    let x : ℕ = first_bits n w in
    ap (λ k. first_bits k w) (add-suc n m) ∙ omega (arith, first_bits_add w n m, ap (λ y. x * y) (pow-suc 2 m) ∙ sym (mul_assoc x (2 ^ m) 2))

-- the first m of m + k digits
pub first_bits_front : (w : BitSet) (m k : ℕ) → first_bits (m + k) w / 2 ^ k ≡ first_bits m w
first_bits_front w m k = ap (λ x. x / 2 ^ k) (first_bits_add w m k) ∙ high (first_bits m w) k (first_bits_lt (from_bit m w) k)

-- digit j, from the top
pub first_bits_at : (w : BitSet) (n j : ℕ) → j < n → binary (first_bits n w) (n - 1 - j) ≡ w j
first_bits_at w n j h =
    let e : n ≡ suc j + (n - 1 - j) = omega arith in
    ap (λ x. eqb (x % 2) 1) (ap (λ m. first_bits m w / 2 ^ (n - 1 - j)) e ∙ first_bits_front w (suc j) (n - 1 - j)) ∙ last (first_bits j w) (w j)
  where
    last : (x : ℕ) (b : Bool) → eqb ((x * 2 + from_bool b) % 2) 1 ≡ b
    last x true = eq-eqb _ 1 (omega arith)
    last x false = ne_eqb _ 1 (omega arith)

pub first_bits_same : (w u : BitSet) (n : ℕ) → first_bits n w ≡ first_bits n u → (i : ℕ) → i < n → w i ≡ u i
first_bits_same w u n e i l = sym (first_bits_at w n i l) ∙ ap (λ x. binary x (n - 1 - i)) e ∙ first_bits_at u n i l
