-- A first bit and an odd pattern below 32 name a burst, and every burst has such a name.
use Rattle.std.proofs.Common.{◌≡◌, ℕ, ◌+◌, ◌-◌, ◌/◌, ◌%◌, ◌^◌, ◌<◌, ◌≤◌, true, ◌&&◌, leb, eqb, sym, ap, ◌∙◌, ⊎_elim, add-zero, arith}
use Rattle.std.specs.Int.{bit_at}
use Rattle.std.proofs.lemmas.Bool.{cases_lt, both_ways, leb-true, and_parts, eq-eqb, eqb-true}
use Rattle.std.proofs.lemmas.Nat.Bits.{bit_at_lowest, bit_at_cat_low}
use lib.Pow.{split}
use Rattle.sector.specs.Bits.{BitSet, binary, marked, OneBurst, first_bits}
use Rattle.sector.proofs.Fed.{first_bits_cong, first_bits_lt, first_bits_at}
use Rattle.sector.proofs.Marked.{marked_at, marked_before, marked_beyond}
use Rattle.check_code.proofs.Window.{clip, clip_in, clip_out, Starts, starts, pattern}

-- a pattern as the register sees it, its first bit at the top
abbrev pub mirror : ℕ → ℕ
mirror p = first_bits 5 (binary p)

marked_first : (f p : ℕ) → p % 2 ≡ 1 → marked f p f ≡ true
marked_first f p odd = ap (marked f p) (sym (add-zero f)) ∙ marked_at f p 0 ∙ eq-eqb (bit_at p 0) 1 (bit_at_lowest p ∙ odd)

module _ (bits f p : ℕ) (inside : f < bits) (odd : p % 2 ≡ 1) (small : p < 32) where
  pub marked_burst : OneBurst (marked f p) bits
  marked_burst = record {
    some = f;
    within = inside;
    wrong = marked_first f p odd;
    from = f;
    near = λ i l t.
        let fi : f ≤ i = leb-true f i (and_parts (leb f i) (binary p (i - f)) t).0 in
        (fi, ⊎_elim (λ h. h) (λ h. absurd (both_ways (marked f p i) (marked_beyond f p 5 i small h) t)) (cases_lt i (f + 5)));
  }

  pub marked_starts : Starts 5 bits (clip bits (marked f p)) f
  marked_starts = record {
    inside = inside;
    first = clip_in bits (marked f p) f inside ∙ marked_first f p odd;
    before = λ i l. clip_in bits (marked f p) i (omega arith) ∙ marked_before f p i l;
    after = λ i l. ⊎_elim (λ m. clip_in bits (marked f p) i m ∙ marked_beyond f p 5 i small l) (λ m. clip_out bits (marked f p) i m) (cases_lt i bits);
    past = clip_out bits (marked f p);
  }

  -- a pattern with no bit past the end stands in the set as it is
  pub marked-pattern : p < 2 ^ (bits - f) → pattern 5 (clip bits (marked f p)) f ≡ mirror p
  marked-pattern ends =
      first_bits_cong (λ j. clip bits (marked f p) (f + j)) (binary p) 5
      (λ j l. ⊎_elim (λ m. clip_in bits (marked f p) (f + j) m)
      (λ m. clip_out bits (marked f p) (f + j) m ∙ sym (marked_beyond f p (bits - f) (f + j) ends (omega arith))) (cases_lt (f + j) bits)
      ∙ marked_at f p j)

-- a pattern's bits past the end change nothing before it
pub marked_cut : (bits f p i : ℕ) → f < bits → i < bits → marked f (p % 2 ^ (bits - f)) i ≡ marked f p i
marked_cut bits f p i inside l =
    let n : ℕ = bits - f in
    ⊎_elim (λ b. marked_before f (p % 2 ^ n) i b ∙ sym (marked_before f p i b))
    (λ b. ap (λ x. leb f i && eqb x 1) (sym (bit_at_cat_low (p / 2 ^ n) n (p % 2 ^ n) (i - f) (omega arith)) ∙ ap (λ x. bit_at x (i - f)) (split p n)))
    (cases_lt i f)

-- every burst is that of some first bit and odd pattern below 32
pub record Named (bits : ℕ) (w : BitSet) : Type 0 where
  pub first : ℕ
  pub code : ℕ
  pub inside : first < bits
  pub odd : code % 2 ≡ 1
  pub small : code < 32
  pub is : (i : ℕ) → i < bits → marked first code i ≡ w i

pub named : (bits : ℕ) (w : BitSet) → OneBurst w bits → Named bits w
named bits w b =
    let st = starts 5 bits w b in
    let a : ℕ = st.0 in
    let sa : Starts 5 bits (clip bits w) a = st.1 in
    -- the pattern's digits, the highest first
    let s : BitSet = λ j. clip bits w (a + (4 - j)) in
    let p : ℕ = first_bits 5 s in
    let digit : (j : ℕ) → j < 5 → binary p j ≡ clip bits w (a + j) =
    λ j l. let e : j ≡ 4 - (4 - j) = omega arith in ap (binary p) e ∙ first_bits_at s 5 (4 - j) (omega arith) ∙ ap (λ m. clip bits w (a + m)) (sym e) in
    let small : p < 32 = first_bits_lt s 5 in
    record {
      first = a;
      code = p;
      inside = sa.inside;
      odd = sym (bit_at_lowest p) ∙ eqb-true (bit_at p 0) 1 (digit 0 (omega arith) ∙ ap (clip bits w) (add-zero a) ∙ sa.first);
      small = small;
      is = λ i l.
          ⊎_elim
          (λ m. marked_before a p i m ∙ sym (sa.before i m))
          (λ m. ⊎_elim
          (λ k. let e : i ≡ a + (i - a) = omega arith in ap (marked a p) e ∙ marked_at a p (i - a) ∙ digit (i - a) (omega arith) ∙ ap (clip bits w) (sym e))
          (λ k. marked_beyond a p 5 i small k ∙ sym (sa.after i k)) (cases_lt i (a + 5)))
          (cases_lt i a)
          ∙ clip_in bits w i l;
    }
