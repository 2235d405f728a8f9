-- The set that a first bit and a pattern name, one bit after another.
use Rattle.std.proofs.Common.{◌≡◌, ℕ, ◌+◌, ◌-◌, ◌<◌, ◌^◌, ◌≤◌, Bool, true, false, ◌&&◌, eqb, ltb, ap, ap₂, arith}
use Rattle.std.proofs.lemmas.Bool.{le-leb, lt-leb}
use Rattle.std.proofs.lemmas.Bool.Decides.{nat_tests}
use Rattle.std.proofs.lemmas.Nat.Bits.{bit_at_above}
use mathlib.Core.Bool.{xor}
use Rattle.sector.specs.Bits.{binary, marked}

pub marked_at : (f p j : ℕ) → marked f p (f + j) ≡ binary p j
marked_at f p j =
    let e : f + j - f ≡ j = omega arith in
    ap₂ (λ (t : Bool) (x : ℕ). t && binary p x) (le-leb f (f + j) (omega arith)) e

pub marked_before : (f p i : ℕ) → i < f → marked f p i ≡ false
marked_before f p i h = ap (λ (t : Bool). t && binary p (i - f)) (lt-leb f i h)

-- no bit of a pattern stands past its length
pub marked_beyond : (f p n i : ℕ) → p < 2 ^ n → f + n ≤ i → marked f p i ≡ false
marked_beyond f p n i h l =
    ap₂ (λ (t : Bool) (x : ℕ). t && eqb x 1) (le-leb f i (omega arith)) (bit_at_above p n (i - f) h (omega arith))

-- ---- the bits of a set below a bound, and one bit more
pub below_none : (f i : ℕ) (m : Bool) → (i < f → m ≡ false) → (ltb i (f + 0) && m) ≡ false
below_none f i m h = grind (arith, nat_tests)

pub below_on : (f k i : ℕ) (m : Bool) → (i ≡ f + k → m ≡ true) → xor (ltb i (f + k) && m) (eqb i (f + k)) ≡ (ltb i (f + (k + 1)) && m)
unfolding xor
below_on f k i m h = grind (arith, nat_tests)

pub below_off : (f k i : ℕ) (m : Bool) → (i ≡ f + k → m ≡ false) → (ltb i (f + k) && m) ≡ (ltb i (f + (k + 1)) && m)
below_off f k i m h = grind (arith, nat_tests)

pub below_all : (a i : ℕ) (m : Bool) → (a ≤ i → m ≡ false) → (ltb i a && m) ≡ m
below_all a i m h = grind (arith, nat_tests)
