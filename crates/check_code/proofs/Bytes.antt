-- Bytes as sets of bits: the same bits in lists that are put together or cut, one byte entered at once, and four bytes as a number.
use Rattle.std.specs.Prelude.{◌≡◌, ℕ, ◌+◌, ◌-◌, ◌*◌, ◌/◌, ◌%◌, ◌^◌, ◌<◌, ◌≤◌, true, List, [], ◌∷◌, ◌++◌, length, drop, ◌==◌, bit_xor, slice_index, refl}
use Rattle.std.specs.Int.{w32, from_be_bytes}
use Rattle.std.proofs.Common.{sym, ap, ap₂, ◌∙◌, mul-add, arith, get_or-drop, get_or-append-add}
use Rattle.std.proofs.lemmas.List.{get_or_append_left}
use Rattle.std.proofs.lemmas.Bool.{eqb-true, agree_below_at}
use Rattle.sector.specs.Bits.{binary, ones_of, from_bit, fed, first_bits}
use Rattle.sector.proofs.Fed.{fed_cong, fed_add, first_bits_cong, first_bits_add}
use Rattle.check_code.specs.Code.{Code, width, enter}
use Rattle.check_code.specs.Aligned.{steps}
use Rattle.check_code.proofs.Register.{enter_digits}

-- ---- bits of bytes
-- the same bit of the same byte
pub at_byte : (xs ys : List ℕ) (i j p q : ℕ) → slice_index xs p ≡ slice_index ys q → i / 8 ≡ p → j / 8 ≡ q → i % 8 ≡ j % 8 → ones_of xs i ≡ ones_of ys j
at_byte xs ys i j p q e ip jq m =
    ap₂ (λ x y. binary x (7 - y)) (ap (λ x. slice_index xs x) ip ∙ e ∙ ap (λ x. slice_index ys x) (sym jq)) m

pub ones_of_byte : (bytes : List ℕ) (i j : ℕ) → j < 8 → ones_of bytes (8 * i + j) ≡ ones_of (slice_index bytes i ∷ []) j
ones_of_byte bytes i j h = at_byte bytes (slice_index bytes i ∷ []) (8 * i + j) j i 0 refl (omega arith) (omega arith) (omega arith)

pub ones_of_front : (xs ys : List ℕ) (i : ℕ) → i < 8 * length xs → ones_of (xs ++ ys) i ≡ ones_of xs i
ones_of_front xs ys i h = at_byte (xs ++ ys) xs i i (i / 8) (i / 8) (get_or_append_left xs ys 0 (i / 8) (omega arith)) refl refl refl

pub ones_of_back : (xs ys : List ℕ) (j : ℕ) → ones_of (xs ++ ys) (8 * length xs + j) ≡ ones_of ys j
ones_of_back xs ys j =
    at_byte (xs ++ ys) ys (8 * length xs + j) j (length xs + j / 8) (j / 8) (get_or-append-add xs ys (j / 8) 0) (omega arith) refl (omega arith)

pub ones_of_drop : (bytes : List ℕ) (k j : ℕ) → ones_of (drop k bytes) j ≡ ones_of bytes (8 * k + j)
ones_of_drop bytes k j =
    at_byte (drop k bytes) bytes j (8 * k + j) (j / 8) (k + j / 8) (get_or-drop k bytes (j / 8) 0) refl (omega arith) (omega arith)

-- ---- one byte
-- the digits of a byte make the byte
byte_digits : (b : ℕ) → b < 256 → first_bits 8 (ones_of (b ∷ [])) ≡ b
byte_digits b h = eqb-true _ b (agree_below_at (λ b. first_bits 8 (ones_of (b ∷ [])) == b) (λ b. true) 256 b refl h)

-- a number takes the digits of one more byte
pub digits_more : (bytes : List ℕ) (i : ℕ) → slice_index bytes i < 256
    → first_bits (8 * (i + 1)) (ones_of bytes) ≡ first_bits (8 * i) (ones_of bytes) * 256 + slice_index bytes i
digits_more bytes i h =
    ap (λ n. first_bits n (ones_of bytes)) (mul-add 8 i 1) ∙ first_bits_add (ones_of bytes) (8 * i) 8
    ∙ ap (λ x. first_bits (8 * i) (ones_of bytes) * 256 + x)
    (first_bits_cong (from_bit (8 * i) (ones_of bytes)) (ones_of (slice_index bytes i ∷ [])) 8 (λ j l. ones_of_byte bytes i j l)
    ∙ byte_digits (slice_index bytes i) h)

-- the register after one more byte: its bits enter at once, beside the register's top ones
pub register_more : (c : Code) → 8 ≤ width c → (start : ℕ) (bytes : List ℕ) (i : ℕ) → slice_index bytes i < 256
    → fed (enter c) start (ones_of bytes) (8 * (i + 1))
    ≡ steps c 8 (bit_xor (fed (enter c) start (ones_of bytes) (8 * i)) (slice_index bytes i * 2 ^ (width c - 8)))
register_more c wide start bytes i h =
    let b : ℕ = slice_index bytes i in
    let v : ℕ = fed (enter c) start (ones_of bytes) (8 * i) in
    ap (fed (enter c) start (ones_of bytes)) (mul-add 8 i 1) ∙ fed_add (enter c) start (ones_of bytes) (8 * i) 8
    ∙ fed_cong (enter c) v (from_bit (8 * i) (ones_of bytes)) (ones_of (b ∷ [])) 8 (λ j l. ones_of_byte bytes i j l)
    ∙ enter_digits c v (ones_of (b ∷ [])) 8 wide ∙ ap (λ x. steps c 8 (bit_xor v (x * 2 ^ (width c - 8)))) (byte_digits b h)

-- four bytes hold the number that their bits make
pub four_held : (bytes : List ℕ) → slice_index bytes 0 < 256 → slice_index bytes 1 < 256 → slice_index bytes 2 < 256 → slice_index bytes 3 < 256
    → first_bits 32 (ones_of bytes) ≡ from_be_bytes w32 bytes
four_held bytes a b d e = omega (arith, digits_more bytes 0 a, digits_more bytes 1 b, digits_more bytes 2 d, digits_more bytes 3 e)
