-- The laws of every sound code: written whole, inverting, combining.
use Rattle.std.specs.Prelude.{◌≡◌, ℕ, ◌+◌, ◌-◌, ◌*◌, ◌/◌, ◌%◌, ◌^◌, ◌<◌, List, ◌++◌, length, bit_xor}
use Rattle.std.specs.Bool.{xor}
use Rattle.std.specs.Int.{w32, to_be_bytes}
use Rattle.std.specs.Int.Bits.{xor_zero_r, xor_self}
use Rattle.std.proofs.Common.{sym, ap, ap₂, ◌∙◌, subst, ⊎_elim, mod-lt, arith, pow_pos, shl_lt}
use Rattle.std.proofs.lemmas.Nat.{shl-shr, from_be_bytes-to_be_bytes_4}
use Rattle.std.proofs.lemmas.Bool.{cases_lt}
use Rattle.sector.specs.Bits.{BitSet, ones_of, both_of, from_bit, inverted, first_bits}
use Rattle.sector.proofs.Fed.{fed_cong, fed_both, first_bits_cong, first_bits_both, first_bits_front}
use Rattle.sector.proofs.Inverted.{length-inverted, bit_inverted}
use Rattle.check_code.specs.Code.{Code, width, enter, check_of, delivered_check, difference_of, balance, amount_of}
use Rattle.check_code.specs.Laws.{Sound, WrittenWhole, Inverting, Combining}
use Rattle.check_code.proofs.Register.{xor_swap, enter_linear, enters_lt}
use Rattle.check_code.proofs.Bytes.{ones_of_front, ones_of_back, four_held}

module _ (c : Code) where
  balance_both : (v u : ℕ) (w t : BitSet) (n : ℕ) → balance c (bit_xor v u) (both_of w t) n ≡ bit_xor (balance c v w n) (balance c u t n)
  balance_both v u w t n =
      ap₂ bit_xor (fed_both (enter c) (enter_linear c) v u w t (8 * n)) (sym (first_bits_both (from_bit (8 * n) w) (from_bit (8 * n) t) (width c)))
      ∙ xor_swap _ _ (first_bits (width c) (from_bit (8 * n) w)) (first_bits (width c) (from_bit (8 * n) t))

  pub balance_cong : (v : ℕ) (w u : BitSet) (n : ℕ) → ((i : ℕ) → i < 8 * n + width c → w i ≡ u i) → balance c v w n ≡ balance c v u n
  balance_cong v w u n h =
      ap₂ bit_xor (fed_cong (enter c) v w u (8 * n) (λ i l. h i (omega arith)))
      (first_bits_cong (from_bit (8 * n) w) (from_bit (8 * n) u) (width c) (λ i l. h (8 * n + i) (omega arith)))

  pub combining : Combining c
  combining w u n = balance_both 0 0 w u n

  -- ---- the difference, over the bits of the whole sector
  start_of : ℕ
  start_of = c.start % 2 ^ width c

  difference_is : (bytes check : List ℕ) → difference_of c bytes check ≡ balance c start_of (ones_of (bytes ++ check)) (length bytes)
  unfolding start_of
  difference_is bytes check =
      let all : BitSet = ones_of (bytes ++ check) in
      ap₂ bit_xor (fed_cong (enter c) (c.start % 2 ^ width c) (ones_of bytes) all (8 * length bytes) (λ i l. sym (ones_of_front bytes check i l)))
      (first_bits_cong (ones_of check) (from_bit (8 * length bytes) all) (width c) (λ j l. sym (ones_of_back bytes check j)))

  -- each bit of the sector after the inversion
  bit_damaged : (w : BitSet) (bytes check : List ℕ) (i : ℕ) → i < 8 * length bytes + 8 * length check
      → ones_of (inverted w bytes ++ inverted (from_bit (8 * length bytes) w) check) i ≡ xor (ones_of (bytes ++ check) i) (w i)
  bit_damaged w bytes check i h =
      let n : ℕ = 8 * length bytes in
      let xs : List ℕ = inverted w bytes in
      let ys : List ℕ = inverted (from_bit n w) check in
      let same : 8 * length xs ≡ n = ap (λ m. 8 * m) (length-inverted w bytes) in
      ⊎_elim
      (λ l.
      ones_of_front xs ys i (omega arith) ∙ bit_inverted w bytes i l
      ∙ ap (λ b. xor b (w i)) (sym (ones_of_front bytes check i l)))
      (λ l.
      let j : ℕ = i - n in
      let e : i ≡ n + j = omega arith in
      let e₂ : i ≡ 8 * length xs + j = omega arith in
      ap (ones_of (xs ++ ys)) e₂ ∙ ones_of_back xs ys j ∙ bit_inverted (from_bit n w) check j (omega arith)
      ∙ ap₂ xor (sym (ones_of_back bytes check j) ∙ ap (ones_of (bytes ++ check)) (sym e)) (ap w (sym e)))
      (cases_lt i n)

  pub inverting : Sound c → Inverting c
  inverting sound w bytes check four =
      let n : ℕ = length bytes in
      let most = sound.most in
      let s : BitSet = ones_of (bytes ++ check) in
      let xs : List ℕ = inverted w bytes in
      let ys : List ℕ = inverted (from_bit (8 * n) w) check in
      difference_is xs ys
      ∙ ap (balance c start_of (ones_of (xs ++ ys))) (length-inverted w bytes)
      ∙ balance_cong start_of (ones_of (xs ++ ys)) (both_of s w) n (λ i l. bit_damaged w bytes check i (omega arith))
      ∙ ap (λ x. balance c x (both_of s w) n) (sym (xor_zero_r start_of))
      ∙ balance_both start_of 0 s w n
      ∙ ap (λ x. bit_xor x (amount_of c w n)) (sym (difference_is bytes check))

-- the check bytes hold the check
module _ (c : Code) (sound : Sound c) where
  pub check_lt : (bytes : List ℕ) → check_of c bytes < 2 ^ width c
  check_lt bytes = enters_lt c sound (c.start % 2 ^ width c) (mod-lt c.start (pow_pos (width c))) (ones_of bytes) (8 * length bytes)

  pub whole : WrittenWhole c
  whole bytes =
      let r : ℕ = check_of c bytes in
      let k : ℕ = 32 - width c in
      let most = sound.most in
      let e : width c + k ≡ 32 = omega arith in
      let small : r * 2 ^ k < 2 ^ 32 = subst (λ m. r * 2 ^ k < 2 ^ m) e (shl_lt (width c) k (check_lt bytes)) in
      let check : List ℕ = to_be_bytes w32 (r * 2 ^ k) in
      let held : delivered_check c check ≡ r =
      sym (first_bits_front (ones_of check) (width c) k)
      ∙ ap (λ x. x / 2 ^ k)
      (ap (λ n. first_bits n (ones_of check)) e ∙ four_held check (omega arith) (omega arith) (omega arith) (omega arith)
      ∙ from_be_bytes-to_be_bytes_4 (r * 2 ^ k) small)
      ∙ shl-shr r k in
      ap (bit_xor r) held ∙ xor_self r
