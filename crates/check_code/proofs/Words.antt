-- A register takes eight bytes at once: the first four beside all its bits, the last four by themselves.
use Rattle.std.specs.Prelude.{◌≡◌, ℕ, zero, suc, ◌+◌, ◌*◌, ◌/◌, ◌%◌, ◌<◌, Bool, List, [], length, drop, bit_xor, slice_index, slice_index_or, refl}
use Rattle.std.specs.Int.{w32, from_be_bytes}
use Rattle.std.specs.Simd.{first_chunks}
use Rattle.std.proofs.Common.{sym, ap, ap₂, ◌∙◌, mul-add, mul-one, arith, lit<, lit≤, get_or-drop, get_or-take}
use Rattle.std.proofs.lemmas.Nat.{xor_comm}
use Rattle.sector.specs.Bits.{BitSet, ones_of, from_bit, fed, first_bits}
use Rattle.sector.proofs.Fed.{fed_add, fed_cong, first_bits_cong}
use Rattle.check_code.specs.Code.{Code, enter}
use Rattle.check_code.specs.Aligned.{aligned, steps}
use Rattle.check_code.proofs.Register.{steps_xor, steps_add, enter_digits}
use Rattle.check_code.proofs.Bytes.{at_byte, ones_of_drop, four_held}

-- the register after the bits of eight bytes
eight_more : (c : Code) (v : ℕ) (bytes : List ℕ) → ((k : ℕ) → k < 8 → slice_index bytes k < 256)
    → fed (enter (aligned c)) v (ones_of bytes) 64
    ≡ bit_xor (steps (aligned c) 32 (from_be_bytes w32 (drop 4 bytes))) (steps (aligned c) 64 (bit_xor v (from_be_bytes w32 bytes)))
eight_more c v bytes small =
    let a : Code = aligned c in
    let w : BitSet = ones_of bytes in
    let late : (k : ℕ) → k < 4 → slice_index (drop 4 bytes) k < 256 = λ k l. omega (arith, get_or-drop 4 bytes k 0, small (4 + k) (omega arith)) in
    let first : first_bits 32 w * 1 ≡ from_be_bytes w32 bytes = mul-one (first_bits 32 w) ∙ four_held bytes (small 0 (lit< tt)) (small 1 (lit< tt)) (small 2 (lit< tt)) (small 3 (lit< tt)) in
    let second : first_bits 32 (from_bit 32 w) * 1 ≡ from_be_bytes w32 (drop 4 bytes) =
    mul-one (first_bits 32 (from_bit 32 w)) ∙ first_bits_cong (from_bit 32 w) (ones_of (drop 4 bytes)) 32 (λ j l. sym (ones_of_drop bytes 4 j))
    ∙ four_held (drop 4 bytes) (late 0 (lit< tt)) (late 1 (lit< tt)) (late 2 (lit< tt)) (late 3 (lit< tt)) in
    let x : ℕ = bit_xor v (from_be_bytes w32 bytes) in
    let y : ℕ = from_be_bytes w32 (drop 4 bytes) in
    fed_add (enter a) v w 32 32
    ∙ enter_digits a (fed (enter a) v w 32) (from_bit 32 w) 32 (lit≤ tt)
    ∙ ap (steps a 32) (ap₂ bit_xor (enter_digits a v w 32 (lit≤ tt) ∙ ap (λ d. steps a 32 (bit_xor v d)) first) second)
    ∙ steps_xor a 32 (steps a 32 x) y
    ∙ xor_comm (steps a 32 (steps a 32 x)) (steps a 32 y)
    ∙ ap (bit_xor (steps a 32 y)) (sym (steps_add a 32 32 x))

-- ---- bytes in chunks of eight, and the rest
chunk_at : (bytes : List ℕ) (n i j : ℕ) → i < n → j < 8
    → slice_index (slice_index_or (first_chunks 8 n bytes) i []) j ≡ slice_index bytes (8 * i + j)
chunk_at bytes zero i j h l = absurd (omega arith)
chunk_at bytes (suc n) zero j h l = get_or-take 8 bytes j 0 l ∙ ap (slice_index bytes) (omega arith)
chunk_at bytes (suc n) (suc i) j h l =
    chunk_at (drop 8 bytes) n i j (omega arith) l ∙ get_or-drop 8 bytes (8 * i + j) 0 ∙ ap (slice_index bytes) (omega arith)

-- the register after one more chunk
pub chunk_more : (c : Code) (start : ℕ) (bytes : List ℕ) (n i : ℕ) → i < n → (chunk : List ℕ) → chunk ≡ slice_index_or (first_chunks 8 n bytes) i []
    → ((k : ℕ) → slice_index bytes k < 256)
    → fed (enter (aligned c)) start (ones_of bytes) (64 * (i + 1))
    ≡ bit_xor (steps (aligned c) 32 (from_be_bytes w32 (drop 4 chunk)))
    (steps (aligned c) 64 (bit_xor (fed (enter (aligned c)) start (ones_of bytes) (64 * i)) (from_be_bytes w32 chunk)))
chunk_more c start bytes n i h chunk e small =
    let f : ℕ → Bool → ℕ = enter (aligned c) in
    let at : (k : ℕ) → k < 8 → slice_index chunk k ≡ slice_index bytes (8 * i + k) = λ k l. ap (λ xs. slice_index xs k) e ∙ chunk_at bytes n i k h l in
    let v : ℕ = fed f start (ones_of bytes) (64 * i) in
    ap (fed f start (ones_of bytes)) (mul-add 64 i 1) ∙ fed_add f start (ones_of bytes) (64 * i) 64
    ∙ fed_cong f v (from_bit (64 * i) (ones_of bytes)) (ones_of chunk) 64
    (λ j l. at_byte bytes chunk (64 * i + j) j (8 * i + j / 8) (j / 8) (sym (at (j / 8) (omega arith))) (omega arith) refl (omega arith))
    ∙ eight_more c v chunk (λ k l. omega (arith, at k l, small (8 * i + k)))

-- whole eights of bytes and then the rest are all the bytes
pub both_parts : (f : ℕ → Bool → ℕ) (v : ℕ) (bytes rest : List ℕ) → rest ≡ drop (length bytes / 8 * 8) bytes
    → (n m : ℕ) → n ≡ length bytes / 8 → m ≡ length bytes % 8
    → fed f (fed f v (ones_of bytes) (64 * n)) (ones_of rest) (8 * m) ≡ fed f v (ones_of bytes) (8 * length bytes)
both_parts f v bytes rest e n m en em =
    let k : ℕ = length bytes / 8 * 8 in
    let front : ℕ = fed f v (ones_of bytes) (8 * k) in
    let before : 64 * n ≡ 8 * k = omega arith in
    let all : 8 * k + 8 * m ≡ 8 * length bytes = omega arith in
    ap₂ (λ i xs. fed f (fed f v (ones_of bytes) i) (ones_of xs) (8 * m)) before e
    ∙ fed_cong f front (ones_of (drop k bytes)) (from_bit (8 * k) (ones_of bytes)) (8 * m) (λ j l. ones_of_drop bytes k j)
    ∙ sym (fed_add f v (ones_of bytes) (8 * k) (8 * m))
    ∙ ap (fed f v (ones_of bytes)) all
