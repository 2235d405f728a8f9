-- The check as the remainder of a division of polynomials over two elements.
use Rattle.std.specs.Prelude.{◌≡◌, ℕ, zero, suc, ◌-◌, ◌*◌, ◌^◌, ◌<◌, ◌≤◌, Bool, false, ◌&&◌, List, length, nat_le, nat_lt}
use Rattle.std.specs.Bool.{xor}
use Rattle.sector.specs.Bits.{BitSet, binary, ones_of}
use Rattle.check_code.specs.Code.{Code, width, remainder_of}

-- A polynomial over two elements says of each power of X whether its coefficient is 1, as `binary` does of the bits of a number.
abbrev pub Polynomial : Type 0
Polynomial = BitSet

-- its degree is below d
abbrev pub DegreeBelow : ℕ → Polynomial → Type 0
DegreeBelow d p = (i : ℕ) → d ≤ i → p i ≡ false

-- the sum: coefficients are added, and 1 + 1 is 0
abbrev pub plus : Polynomial → Polynomial → Polynomial
plus p q i = xor (p i) (q i)

-- the sum of p_i q_(n-i) for i from 0 to m
abbrev pub products : Polynomial → Polynomial → ℕ → ℕ → Bool
products p q n zero = p 0 && q n
products p q n (suc m) = xor (products p q n m) (p (suc m) && q (n - suc m))

-- the product: its coefficient of X^n is the sum of p_i q_(n-i) for i from 0 to n
abbrev pub times : Polynomial → Polynomial → Polynomial
times p q n = products p q n n

-- the product with X^n
abbrev pub raised : ℕ → Polynomial → Polynomial
raised n p i = nat_le n i && p (i - n)

-- the polynomial whose coefficients are the bits of some bytes, the first bit at the highest power
abbrev pub of_bytes : List ℕ → Polynomial
of_bytes bytes i = nat_lt i (8 * length bytes) && ones_of bytes (8 * length bytes - suc i)

-- The bytes' polynomial, raised by the register's bits, with the start worked in above it, is a multiple of the divisor
-- plus the remainder, and the remainder's degree is smaller than the divisor's.
pub record Divided (c : Code) (from : ℕ) (bytes : List ℕ) : Type 0 where
  pub quotient : Polynomial
  pub bounded : DegreeBelow (8 * length bytes) quotient
  pub equation : (i : ℕ) → plus (raised (8 * length bytes) (binary from)) (raised (width c) (of_bytes bytes)) i
      ≡ plus (times quotient (binary c.divisor)) (binary (remainder_of c from bytes)) i
  pub smaller : DegreeBelow (width c) (binary (remainder_of c from bytes))

-- the check is a remainder, whatever the bytes and whatever fits the register at the start
abbrev pub CheckIsRemainder : Code → Type 0
CheckIsRemainder c = (from : ℕ) (bytes : List ℕ) → from < 2 ^ width c → Divided c from bytes
