-- A span of wrong bits by its first one: its amount is its pattern, shifted to the end of the sector; and a burst always shows.
use Rattle.std.specs.Prelude.{◌≡◌, ℕ, zero, suc, ◌+◌, ◌-◌, ◌*◌, ◌^◌, ◌<◌, ◌≤◌, Bool, true, false, ◌&&◌, ◌⊎◌, length, ◌≢◌, bit_xor, nat_lt, refl}
use Rattle.std.specs.Int.{from_bool}
use Rattle.std.proofs.Common.{sym, ap, ◌∙◌, subst, inl, inr, ⊎_elim, add-zero, pow-suc, arith, pow_mono, pow_pos}
use Rattle.std.proofs.lemmas.Bool.{cases_lt, cases_Bool, both_ways, lt-ltb, le-ltb}
use Rattle.sector.specs.Bits.{BitSet, from_bit, Span, OneBurst, fed, first_bits}
use Rattle.sector.proofs.Fed.{fed_cong, fed_add, fed_none, first_bits_lt}
use Rattle.check_code.specs.Code.{Code, width, check_bytes_of, amount_of}
use Rattle.check_code.specs.Laws.{Sound, BurstShows}
use Rattle.check_code.specs.Aligned.{steps}
use Rattle.check_code.proofs.Register.{below, below_zero, below_none, below_digits, steps_zero, steps_same, balance_below}
use Rattle.check_code.proofs.Laws.{inverting, whole}

-- ---- a set that ends with the sector
abbrev pub clip : ℕ → BitSet → BitSet
clip bits w i = nat_lt i bits && w i

pub clip_in : (bits : ℕ) (w : BitSet) (i : ℕ) → i < bits → clip bits w i ≡ w i
clip_in bits w i h = ap (λ t. t && w i) (lt-ltb i bits h)

pub clip_out : (bits : ℕ) (w : BitSet) (i : ℕ) → bits ≤ i → clip bits w i ≡ false
clip_out bits w i h = ap (λ t. t && w i) (le-ltb i bits h)

-- ---- a span by its first wrong bit a
pub record Starts (reach bits : ℕ) (w : BitSet) (a : ℕ) : Type 0 where
  pub inside : a < bits
  pub first : w a ≡ true
  pub before : (i : ℕ) → i < a → w i ≡ false
  pub after : (i : ℕ) → a + reach ≤ i → w i ≡ false
  pub past : (i : ℕ) → bits ≤ i → w i ≡ false

-- the first bit of a set among the first n, if there is one
first_bit : (w : BitSet) (n : ℕ) → ((i : ℕ) → i < n → w i ≡ false) ⊎ ((a : ℕ) × (a < n) × (w a ≡ true) × ((i : ℕ) → i < a → w i ≡ false))
first_bit w zero = inl (λ i h. absurd (omega arith))
first_bit w (suc n) =
    ⊎_elim
    (λ nothing. ⊎_elim
    (λ on. inr (n, omega arith, on, nothing))
    (λ off. inl (λ i h. ⊎_elim (λ l. nothing i l) (λ l. let e : n ≡ i = omega arith in subst (λ m. w m ≡ false) e off) (cases_lt i n)))
    (cases_Bool (w n)))
    (λ p. let inside = p.1 in inr (p.0, omega arith, p.2, p.3))
    (first_bit w n)

pub starts : (reach bits : ℕ) (w : BitSet) → Span reach w bits → (a : ℕ) × Starts reach bits (clip bits w) a
starts reach bits w b =
    ⊎_elim
    (λ nothing. absurd (both_ways (w b.some) (nothing b.some b.within) b.wrong))
    (λ p.
    let a : ℕ = p.0 in
    let al : a < bits = p.1 in (
      a,
      record {
        inside = al;
        first = clip_in bits w a al ∙ p.2;
        before = λ i h. clip_in bits w i (omega arith) ∙ p.3 i h;
        after = λ i h. ⊎_elim
            (λ l. clip_in bits w i l
            ∙ ⊎_elim (λ t. absurd (let x = b.near i l t in let y = b.near a al p.2 in omega arith)) (λ f. f) (cases_Bool (w i)))
            (λ l. clip_out bits w i l) (cases_lt i bits);
        past = clip_out bits w;
      },
    ))
    (first_bit w bits)

-- the pattern of a span, its first bit at the top
abbrev pub pattern : ℕ → BitSet → ℕ → ℕ
pattern reach w a = first_bits reach (from_bit a w)

pub pattern_ge : (reach : ℕ) (w : BitSet) (a : ℕ) → w a ≡ true → 2 ^ reach ≤ pattern (suc reach) w a
pattern_ge zero w a e = omega (arith, ap from_bool (ap w (add-zero a) ∙ e))
pattern_ge (suc reach) w a e = omega (arith, pattern_ge reach w a e, pow-suc 2 reach)

module _ (c : Code) where
  -- the amount of a set is what it leaves in a register that bits enter at the bottom
  pub amount_below : (w : BitSet) (n : ℕ) → amount_of c w n ≡ fed (below c) 0 (clip (8 * n + width c) w) (8 * n + width c)
  amount_below w n =
      balance_below c w n
      ∙ fed_cong (below c) 0 w (clip (8 * n + width c) w) (8 * n + width c) (λ i l. sym (clip_in (8 * n + width c) w i l))

  module _ (reach : ℕ) (fits : suc reach ≤ width c) where
    -- zeros past the end, so that every span has its full length
    pub padded : (bits : ℕ) (w : BitSet) (a : ℕ) → Starts (suc reach) bits w a
        → steps c reach (fed (below c) 0 w bits) ≡ steps c (bits - 1 - a) (pattern (suc reach) w a)
    padded bits w a b =
        let inside = b.inside in
        let f : ℕ → Bool → ℕ = below c in
        let e : bits + reach ≡ a + suc reach + (bits - 1 - a) = omega arith in
        let x : ℕ = fed f 0 w (a + suc reach) in
        let none : BitSet = λ i. false in
        sym (fed_add f 0 w bits reach
        ∙ fed_cong f (fed f 0 w bits) (from_bit bits w) none reach (λ i l. b.past (bits + i) (omega arith))
        ∙ below_none c (fed f 0 w bits) reach)
        ∙ ap (fed f 0 w) e ∙ fed_add f 0 w (a + suc reach) (bits - 1 - a)
        ∙ fed_cong f x (from_bit (a + suc reach) w) none (bits - 1 - a) (λ i l. b.after (a + suc reach + i) (omega arith))
        ∙ below_none c x (bits - 1 - a)
        ∙ ap (steps c (bits - 1 - a))
        (fed_add f 0 w a (suc reach) ∙ ap (λ y. fed f y (from_bit a w) (suc reach)) (fed_none f (below_zero c) w a b.before)
        ∙ below_digits c (from_bit a w) (suc reach) fits)

    pub pattern_fits : (w : BitSet) (a : ℕ) → pattern (suc reach) w a < 2 ^ width c
    pattern_fits w a = let p : 2 ^ suc reach ≤ 2 ^ width c = pow_mono fits in omega (arith, first_bits_lt (from_bit a w) (suc reach))

-- no burst has the amount 0
pub amount_shows : (c : Code) → Sound c → (w : BitSet) (n : ℕ) → OneBurst w (8 * n + width c) → amount_of c w n ≢ 0
amount_shows c sound w n b e =
    let bits : ℕ = 8 * n + width c in
    let s : BitSet = clip bits w in
    let p : (a : ℕ) × Starts 5 bits s a = starts 5 bits w b in
    let a : ℕ = p.0 in
    let r : ℕ = pattern 5 s a in
    let fits : 5 ≤ width c = omega (arith, sound.least) in
    let gone : steps c (bits - 1 - a) r ≡ steps c (bits - 1 - a) 0 =
    sym (padded c 4 fits bits s a p.1) ∙ ap (steps c 4) (sym (amount_below c w n) ∙ e) ∙ steps_zero c 4 ∙ sym (steps_zero c (bits - 1 - a)) in
    let z : r ≡ 0 = steps_same c sound (bits - 1 - a) r 0 (pattern_fits c 4 fits s a) (pow_pos (width c)) gone in
    omega (arith, pattern_ge 4 s a p.1.first)

pub burst_shows : (c : Code) → Sound c → BurstShows c
burst_shows c sound w bytes b e =
    amount_shows c sound w (length bytes) b
    (sym (inverting c sound w bytes (check_bytes_of c bytes) refl
    ∙ ap (λ x. bit_xor x (amount_of c w (length bytes))) (whole c sound bytes)) ∙ e)
