-- Inverting sets of bits: one bit, one set after another, equal sets, and what each bit becomes.
use Rattle.std.proofs.Common.{◌≡◌, ℕ, suc, ◌+◌, ◌-◌, ◌*◌, ◌/◌, ◌%◌, ◌^◌, ◌<◌, Bool, true, false, eqb, List, [], ◌∷◌, length, get_or, set, sym, refl, ap, ◌∙◌, ap₂, ⊎_elim, arith}
use lib.Bits.{bit_xor, xor_assoc, xor_zero_r}
use Rattle.std.proofs.lemmas.Bool.{cases_lt, cases_eq, eq-eqb, ne_eqb, eqb-true, agree_below_at}
use mathlib.Core.Bool.{xor}
use Rattle.sector.specs.Bits.{BitSet, binary, ones_of, both_of, from_bit, first_bits, inverted}
use Rattle.sector.proofs.Fed.{binary_both, first_bits_cong, first_bits_none, first_bits_both, first_bits_at}

pub xor_same : (a b : Bool) → a ≡ b → xor a b ≡ false
unfolding xor
xor_same a b e = grind arith

-- ---- whole lists
pub length-inverted : (w : BitSet) (bytes : List ℕ) → length (inverted w bytes) ≡ length bytes
length-inverted w [] = refl
length-inverted w (b ∷ bytes) = ap suc (length-inverted (from_bit 8 w) bytes)

pub inverted_cong : (w u : BitSet) (bytes : List ℕ) → ((i : ℕ) → i < 8 * length bytes → w i ≡ u i) → inverted w bytes ≡ inverted u bytes
inverted_cong w u [] h = refl
inverted_cong w u (b ∷ bytes) h =
    ap₂ (λ (m : ℕ) (bs : List ℕ). bit_xor b m ∷ bs) (first_bits_cong w u 8 (λ i l. h i (omega arith)))
    (inverted_cong (from_bit 8 w) (from_bit 8 u) bytes (λ i l. h (8 + i) (omega arith)))

byte_kept : (w : BitSet) → ((i : ℕ) → i < 8 → w i ≡ false) → (b : ℕ) → bit_xor b (first_bits 8 w) ≡ b
byte_kept w h b = ap (bit_xor b) (first_bits_none w 8 h) ∙ xor_zero_r b

pub inverted_none : (w : BitSet) (bytes : List ℕ) → ((i : ℕ) → i < 8 * length bytes → w i ≡ false) → inverted w bytes ≡ bytes
inverted_none w [] h = refl
inverted_none w (b ∷ bytes) h =
    ap₂ (λ (x : ℕ) (bs : List ℕ). x ∷ bs) (byte_kept w (λ i l. h i (omega arith)) b)
    (inverted_none (from_bit 8 w) bytes (λ i l. h (8 + i) (omega arith)))

pub inverted_both : (w u : BitSet) (bytes : List ℕ) → inverted u (inverted w bytes) ≡ inverted (both_of w u) bytes
inverted_both w u [] = refl
inverted_both w u (b ∷ bytes) =
    ap₂ (λ (x : ℕ) (bs : List ℕ). x ∷ bs) (xor_assoc b (first_bits 8 w) (first_bits 8 u) ∙ ap (bit_xor b) (first_bits_both w u 8))
    (inverted_both (from_bit 8 w) (from_bit 8 u) bytes)

-- inverting the same bits again gives the bytes back
pub inverted_back : (w u : BitSet) (bytes : List ℕ) → ((i : ℕ) → i < 8 * length bytes → w i ≡ u i) → inverted u (inverted w bytes) ≡ bytes
inverted_back w u bytes h = inverted_both w u bytes ∙ inverted_none (both_of w u) bytes (λ i l. xor_same (w i) (u i) (h i l))

-- what each bit becomes
pub bit_inverted : (w : BitSet) (bytes : List ℕ) (i : ℕ) → i < 8 * length bytes → ones_of (inverted w bytes) i ≡ xor (ones_of bytes i) (w i)
bit_inverted w [] i h = absurd (omega arith)
bit_inverted w (b ∷ bytes) i h =
    ⊎_elim
    (λ l.
    let q : i / 8 ≡ 0 = omega arith in
    let r : i % 8 ≡ i = omega arith in
    ap₂ (λ (x y : ℕ). binary (get_or (inverted w (b ∷ bytes)) x 0) (7 - y)) q r
    ∙ binary_both b (first_bits 8 w) (7 - i)
    ∙ ap₂ xor (sym (ap₂ (λ (x y : ℕ). binary (get_or (b ∷ bytes) x 0) (7 - y)) q r)) (first_bits_at w 8 i l))
    (λ l.
    let j : ℕ = i - 8 in
    let q : i / 8 ≡ suc (j / 8) = omega arith in
    let r : i % 8 ≡ j % 8 = omega arith in
    let e : 8 + j ≡ i = omega arith in
    ap₂ (λ (x y : ℕ). binary (get_or (inverted w (b ∷ bytes)) x 0) (7 - y)) q r
    ∙ bit_inverted (from_bit 8 w) bytes j (omega arith)
    ∙ ap₂ xor (sym (ap₂ (λ (x y : ℕ). binary (get_or (b ∷ bytes) x 0) (7 - y)) q r)) (ap w e))
    (cases_lt i 8)

-- ---- one bit
pub eqb_moved : (n k j i : ℕ) → n + j ≡ i → eqb k j ≡ eqb (n + k) i
eqb_moved n k j i e =
    ⊎_elim (λ s. eq-eqb k j s ∙ sym (eq-eqb (n + k) i (omega arith))) (λ d. ne_eqb k j d ∙ sym (ne_eqb (n + k) i (λ t. d (omega arith)))) (cases_eq k j)

first_bits_one : (i : ℕ) → i < 8 → first_bits 8 (λ j. eqb j i) ≡ 128 / 2 ^ i
first_bits_one i h = eqb-true _ _ (agree_below_at (λ i. eqb (first_bits 8 (λ j. eqb j i)) (128 / 2 ^ i)) (λ i. true) 8 i refl h)

pub inverted_one : (bytes : List ℕ) (i : ℕ) → i < 8 * length bytes
    → set bytes (i / 8) (bit_xor (get_or bytes (i / 8) 0) (128 / 2 ^ (i % 8))) ≡ inverted (λ j. eqb j i) bytes
inverted_one [] i h = absurd (omega arith)
inverted_one (b ∷ bytes) i h =
    ⊎_elim
    (λ l.
    let q : i / 8 ≡ 0 = omega arith in
    let r : i % 8 ≡ i = omega arith in
    ap₂ (λ (x y : ℕ). set (b ∷ bytes) x (bit_xor (get_or (b ∷ bytes) x 0) (128 / 2 ^ y))) q r
    ∙ ap₂ (λ (m : ℕ) (bs : List ℕ). bit_xor b m ∷ bs) (sym (first_bits_one i l))
    (sym (inverted_none (λ j. eqb (8 + j) i) bytes (λ j m. ne_eqb (8 + j) i (omega arith)))))
    (λ l.
    let j : ℕ = i - 8 in
    let q : i / 8 ≡ suc (j / 8) = omega arith in
    let r : i % 8 ≡ j % 8 = omega arith in
    ap₂ (λ (x y : ℕ). set (b ∷ bytes) x (bit_xor (get_or (b ∷ bytes) x 0) (128 / 2 ^ y))) q r
    ∙ ap₂ (λ (x : ℕ) (bs : List ℕ). x ∷ bs) (sym (byte_kept (λ k. eqb k i) (λ k m. ne_eqb k i (omega arith)) b))
    (inverted_one bytes j (omega arith) ∙ inverted_cong (λ k. eqb k j) (λ k. eqb (8 + k) i) bytes (λ k m. eqb_moved 8 k j i (omega arith))))
    (cases_lt i 8)
