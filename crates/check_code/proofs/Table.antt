-- The table: its entries are the shifts of each byte, and by them a register takes a whole byte at once.
use Rattle.std.proofs.Common.{◌≡◌, ℕ, zero, suc, ◌+◌, ◌*◌, ◌/◌, ◌%◌, ◌^◌, ◌<◌, ◌≤◌, ◌-◌, List, [], ◌∷◌, get_or, sym, refl, ap, ◌∙◌, ap₂, add-zero, add-suc, suc-add, zero-add, mul-div_cancel, mul_assoc, mul_comm, mul-one, mod-lt, lit<, lit≤, arith, pow_pos, pow-add, shr-shr}
use native.Mathlib.Nat.{mul-mod_left}
use lib.Bits.{bit_xor, bit_and, xor_shr, xor_mod, xor_shifted, xor_comm, xor_zero_r}
use lib.Pow.{split}
use Rattle.std.proofs.lemmas.Grind.{and_numeral}
use Rattle.check_code.specs.Code.{Code}
use Rattle.check_code.specs.Aligned.{steps, aligned}
use Rattle.check_code.proofs.Register.{shl_xor, steps_xor, steps_add, steps_small}

-- what k shifts make of each of n bytes at the top of 32 bits, from the byte b on
abbrev pub entries : Code → ℕ → ℕ → ℕ → List ℕ
entries c k zero b = []
entries c k (suc n) b = steps c k (b * 2 ^ 24) ∷ entries c k n (suc b)

entries_at : (c : Code) (k n b j : ℕ) → j < n → get_or (entries c k n b) j 0 ≡ steps c k ((b + j) * 2 ^ 24)
entries_at c k zero b j h = absurd (omega arith)
entries_at c k (suc n) b zero h = ap (λ y. steps c k (y * 2 ^ 24)) (sym (add-zero b))
entries_at c k (suc n) b (suc j) h =
    entries_at c k n (suc b) j (omega arith) ∙ ap (λ y. steps c k (y * 2 ^ 24)) (suc-add b j ∙ sym (add-suc b j))

pub table_at : (c : Code) (k b : ℕ) → b < 256 → get_or (entries c k 256 0) b 0 ≡ steps c k (b * 2 ^ 24)
table_at c k b h = entries_at c k 256 0 b h ∙ ap (λ y. steps c k (y * 2 ^ 24)) (zero-add b)

-- the low three bytes move up, and the top byte, with the new one, turns into its entry
pub byte_step : (c : Code) (v b : ℕ) → v < 2 ^ 32 → b < 256
    → bit_xor (v * 2 ^ 8 % 2 ^ 32) (steps (aligned c) 8 (bit_xor (v / 2 ^ 24) b * 2 ^ 24)) ≡ steps (aligned c) 8 (bit_xor v (b * 2 ^ 24))
byte_step c v b hv hb =
    let a : Code = aligned c in
    let hi : ℕ = bit_xor (v / 2 ^ 24) b in
    let lo : ℕ = v % 2 ^ 24 in
    let x : ℕ = bit_xor v (b * 2 ^ 24) in
    let hie : x / 2 ^ 24 ≡ hi = xor_shr v (b * 2 ^ 24) 24 ∙ ap (bit_xor (v / 2 ^ 24)) (mul-div_cancel b (pow_pos 24)) in
    let loe : x % 2 ^ 24 ≡ lo = xor_mod v (b * 2 ^ 24) 24 ∙ ap (bit_xor lo) (mul-mod_left b (2 ^ 24)) ∙ xor_zero_r lo in
    let ll : lo < 2 ^ 24 = omega arith in
    let xe : x ≡ bit_xor (hi * 2 ^ 24) lo = sym (split x 24) ∙ ap₂ (λ p q. p * 2 ^ 24 + q) hie loe ∙ sym (xor_shifted hi 24 lo ll) in
    let left : v * 2 ^ 8 % 2 ^ 32 ≡ lo * 2 ^ 8 = omega arith in
    ap (λ y. bit_xor y (steps a 8 (hi * 2 ^ 24))) (left ∙ sym (steps_small a 8 lo (omega arith)))
    ∙ xor_comm (steps a 8 lo) (steps a 8 (hi * 2 ^ 24))
    ∙ sym (steps_xor a 8 (hi * 2 ^ 24) lo)
    ∙ ap (steps a 8) (sym xe)

-- ---- a register by its four bytes
-- one more byte beside what stands above it
byte_below : (v k : ℕ) → bit_xor (v / 2 ^ (k + 8) * 2 ^ (k + 8)) (v / 2 ^ k % 256 * 2 ^ k) ≡ v / 2 ^ k * 2 ^ k
byte_below v k =
    let x : ℕ = v / 2 ^ k in
    let low : x % 2 ^ 8 < 2 ^ 8 = omega arith in
    let up : v / 2 ^ (k + 8) * 2 ^ (k + 8) ≡ x / 2 ^ 8 * 2 ^ 8 * 2 ^ k =
    ap₂ (λ p q. p * q) (sym (shr-shr v k 8)) (pow-add 2 k 8 ∙ mul_comm (2 ^ k) (2 ^ 8)) ∙ sym (mul_assoc (x / 2 ^ 8) (2 ^ 8) (2 ^ k)) in
    ap (λ y. bit_xor y (x % 2 ^ 8 * 2 ^ k)) up ∙ sym (shl_xor (x / 2 ^ 8 * 2 ^ 8) (x % 2 ^ 8) k)
    ∙ ap (λ y. y * 2 ^ k) (xor_shifted (x / 2 ^ 8) 8 (x % 2 ^ 8) low ∙ split x 8)

four_parts : (v : ℕ)
    → bit_xor (bit_xor (bit_xor (v / 2 ^ 24 * 2 ^ 24) (v / 2 ^ 16 % 256 * 2 ^ 16)) (v / 2 ^ 8 % 256 * 2 ^ 8)) (v % 256) ≡ v
four_parts v =
    ap (λ y. bit_xor (bit_xor y (v / 2 ^ 8 % 256 * 2 ^ 8)) (v % 256)) (byte_below v 16)
    ∙ ap (λ y. bit_xor y (v % 256)) (byte_below v 8)
    ∙ xor_shifted (v / 2 ^ 8) 8 (v % 256) (omega arith) ∙ split v 8

-- a lower byte comes to the top by the first shifts
from_below : (c : Code) (k m n b : ℕ) → n ≡ k + m → m ≤ 24 → b < 256
    → steps (aligned c) k (b * 2 ^ 24) ≡ steps (aligned c) n (b * 2 ^ (24 - m))
from_below c k m n b e l h =
    let a : Code = aligned c in
    let d : 24 - m + m ≡ 24 = omega arith in
    let s : b * 2 ^ (24 - m) * 2 ^ m ≡ b * 2 ^ 24 =
    mul_assoc b (2 ^ (24 - m)) (2 ^ m) ∙ ap (λ y. b * y) (sym (pow-add 2 (24 - m) m) ∙ ap (λ i. 2 ^ i) d) in
    let small : b * 2 ^ (24 - m) * 2 ^ m < 2 ^ 32 = omega arith in
    ap (steps a k) (sym s ∙ sym (steps_small a m (b * 2 ^ (24 - m)) small))
    ∙ sym (steps_add a k m (b * 2 ^ (24 - m))) ∙ ap (λ i. steps a i (b * 2 ^ (24 - m))) (sym e)

-- Four tables, each for eight shifts more than the next, have all shifts of a register: the top byte's entry in the first,
-- xor the next bytes' in the others.
pub by_tables : (c : Code) (k v : ℕ) → v < 2 ^ 32
    → bit_xor (bit_xor (bit_xor (get_or (entries (aligned c) (k + 24) 256 0) (v / 2 ^ 24) 0)
    (get_or (entries (aligned c) (k + 16) 256 0) (bit_and (v / 2 ^ 16) 255) 0))
    (get_or (entries (aligned c) (k + 8) 256 0) (bit_and (v / 2 ^ 8) 255) 0))
    (get_or (entries (aligned c) k 256 0) (bit_and v 255) 0)
    ≡ steps (aligned c) (k + 24) v
by_tables c k v h =
    let a : Code = aligned c in
    let n : ℕ = k + 24 in
    let at : (m x : ℕ) → get_or (entries a m 256 0) (bit_and x 255) 0 ≡ steps a m (x % 256 * 2 ^ 24) =
    λ m x. ap (λ i. get_or (entries a m 256 0) i 0) (and_numeral x 254 refl) ∙ table_at a m (x % 256) (mod-lt x (lit< tt)) in
    let p : ℕ = v / 2 ^ 24 * 2 ^ 24 in
    let q : ℕ = v / 2 ^ 16 % 256 * 2 ^ 16 in
    let r : ℕ = v / 2 ^ 8 % 256 * 2 ^ 8 in
    ap₂ bit_xor
    (ap₂ bit_xor
    (ap₂ bit_xor (table_at a n (v / 2 ^ 24) (omega arith))
    (at (k + 16) (v / 2 ^ 16) ∙ from_below c (k + 16) 8 n (v / 2 ^ 16 % 256) (omega arith) (lit≤ tt) (mod-lt (v / 2 ^ 16) (lit< tt))))
    (at (k + 8) (v / 2 ^ 8) ∙ from_below c (k + 8) 16 n (v / 2 ^ 8 % 256) (omega arith) (lit≤ tt) (mod-lt (v / 2 ^ 8) (lit< tt))))
    (at k v ∙ from_below c k 24 n (v % 256) refl (lit≤ tt) (mod-lt v (lit< tt)) ∙ ap (steps a n) (mul-one (v % 256)))
    ∙ sym (steps_xor a n (bit_xor (bit_xor p q) r) (v % 256)
    ∙ ap (λ y. bit_xor y (steps a n (v % 256))) (steps_xor a n (bit_xor p q) r ∙ ap (λ y. bit_xor y (steps a n r)) (steps_xor a n p q)))
    ∙ ap (steps a n) (four_parts v)
