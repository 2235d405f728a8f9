-- The worked examples, computed, and at every length where they speak of one.
use Rattle.std.proofs.Common.{◌≡◌, ℕ, suc, ◌+◌, ◌*◌, true, false, refl, ap, ◌∙◌, ap₂, arith}
use lib.Bits.{bit_xor, xor_zero_r}
use Rattle.std.proofs.lemmas.Bool.{eq-eqb, ne_eqb}
use Rattle.sector.specs.Bits.{BitSet, from_bit, fed}
use Rattle.sector.proofs.Fed.{fed_none, first_bits_none}
use Rattle.check_code.specs.Code.{Code, width, enter, amount_of, crc_code, ecc_code}
use Rattle.check_code.specs.Examples.{last_data_bit, Examples}

last_amount : (c : Code) → enter c 0 false ≡ 0 → (n : ℕ) → amount_of c (last_data_bit n) (suc n) ≡ enter c 0 true
last_amount c e0 n =
    let w : BitSet = last_data_bit n in
    let m : 8 * suc n ≡ suc (8 * n + 7) = omega arith in
    ap₂ bit_xor
    (ap (fed (enter c) 0 w) m
    ∙ ap₂ (enter c) (fed_none (enter c) e0 w (8 * n + 7) (λ i l. ne_eqb i (8 * n + 7) (omega arith))) (eq-eqb (8 * n + 7) (8 * n + 7) refl))
    (first_bits_none (from_bit (8 * suc n) w) (width c) (λ j l. ne_eqb (8 * suc n + j) (8 * n + 7) (omega arith)))
    ∙ xor_zero_r (enter c 0 true)

pub examples : Examples
examples = record { nine_digits = refl; nine_digits_ecc = refl; crc_bit = last_amount crc_code refl; ecc_bit = last_amount ecc_code refl }
