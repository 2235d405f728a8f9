-- Bursts are apart: a computed test, that no pattern comes back as a short one, turned into the theorem on sets of bits.
use Rattle.std.proofs.Common.{◌≡◌, ℕ, zero, suc, ◌+◌, ◌-◌, ◌*◌, ◌^◌, ◌<◌, ◌≤◌, Bool, true, ◌&&◌, ltb, sym, refl, ap, ◌∙◌, subst, ⊎_elim, pow-suc, arith, lit≤}
use Rattle.std.proofs.lemmas.Bool.{cases_lt, and_parts, ltb-true}
use Rattle.sector.specs.Sizes.{bytes_of}
use Rattle.sector.specs.Bits.{BitSet, Span, from_bit, fed}
use Rattle.sector.proofs.Fed.{first_bits_lt, first_bits_same}
use Rattle.sector.proofs.Sizes.{bytes_most}
use Rattle.check_code.specs.Code.{Code, width, step, amount_of, ecc_code}
use Rattle.check_code.specs.Laws.{Sound}
use Rattle.check_code.specs.Aligned.{steps}
use Rattle.check_code.proofs.Register.{below, steps_add, steps_lt, steps_same}
use Rattle.check_code.proofs.Window.{Starts, starts, clip, clip_in, pattern, pattern_ge, pattern_fits, padded, amount_below, amount_shows}
use Rattle.check_code.specs.Sound.{ecc_sound}
use Rattle.burst.specs.Apart.{BurstsApart, NoBurstVanishes}

-- ---- the test: each of the next n registers from v on is above a limit
abbrev above : ℕ → Code → ℕ → ℕ → Bool
above limit c zero v = true
above limit c (suc n) v = let w = step c v in ltb limit w && above limit c n w

-- so it is from each of the m registers v, v + 1, ..
abbrev all_above : ℕ → Code → ℕ → ℕ → ℕ → Bool
all_above limit c n zero v = true
all_above limit c n (suc m) v = above limit c n v && all_above limit c n m (suc v)

above_at : (limit : ℕ) (c : Code) (n v : ℕ) → above limit c n v ≡ true → (d : ℕ) → d < n → limit < steps c (suc d) v
above_at limit c zero v t d h = absurd (omega arith)
above_at limit c (suc n) v t zero h = ltb-true limit (step c v) (and_parts (ltb limit (step c v)) (above limit c n (step c v)) t).0
above_at limit c (suc n) v t (suc d) h = above_at limit c n (step c v) (and_parts (ltb limit (step c v)) (above limit c n (step c v)) t).1 d (omega arith)

all_above_at : (limit : ℕ) (c : Code) (n m v : ℕ) → all_above limit c n m v ≡ true → (r : ℕ) → v ≤ r → r < v + m → above limit c n r ≡ true
all_above_at limit c n zero v t r a b = absurd (omega arith)
all_above_at limit c n (suc m) v t r a b =
    let parts = and_parts (above limit c n v) (all_above limit c n m (suc v)) t in
    ⊎_elim (λ l. all_above_at limit c n m (suc v) parts.1 r (omega arith) (omega arith))
    (λ l. let e : v ≡ r = omega arith in subst (λ x. above limit c n x ≡ true) e parts.0)
    (cases_lt v r)

-- ---- two spans of one amount, for a code whose patterns pass the test
module _ (c : Code) (sound : Sound c) (reach : ℕ) (fits : suc reach ≤ width c) (most : ℕ)
    (test : all_above (2 ^ suc reach - 1) c most (2 ^ reach) (2 ^ reach) ≡ true) where
  -- the earlier one, shifted to the place of the later, would be a short pattern again
  ordered : (bits : ℕ) → bits ≤ suc most → (w u : BitSet) (a b : ℕ) → Starts (suc reach) bits w a → Starts (suc reach) bits u b → a ≤ b
      → fed (below c) 0 w bits ≡ fed (below c) 0 u bits → (a ≡ b) × (pattern (suc reach) w a ≡ pattern (suc reach) u b)
  ordered bits h w u a b sa tb ab e =
      let inside = tb.inside in
      let r : ℕ = pattern (suc reach) w a in
      let q : ℕ = pattern (suc reach) u b in
      let rl : r < 2 ^ suc reach = first_bits_lt (from_bit a w) (suc reach) in
      let ql : q < 2 ^ suc reach = first_bits_lt (from_bit b u) (suc reach) in
      let rg : 2 ^ reach ≤ r = pattern_ge reach w a sa.first in
      let m : bits - 1 - a ≡ (bits - 1 - b) + (b - a) = omega arith in
      let meet : steps c (bits - 1 - b) (steps c (b - a) r) ≡ steps c (bits - 1 - b) q =
      sym (steps_add c (bits - 1 - b) (b - a) r) ∙ ap (λ x. steps c x r) (sym m)
      ∙ sym (padded c reach fits bits w a sa) ∙ ap (steps c reach) e ∙ padded c reach fits bits u b tb in
      let one : steps c (b - a) r ≡ q =
      steps_same c sound (bits - 1 - b) (steps c (b - a) r) q (steps_lt c sound (b - a) r (pattern_fits c reach fits w a))
      (pattern_fits c reach fits u b) meet in
      let two : 2 ^ suc reach ≡ 2 ^ reach * 2 = pow-suc 2 reach in
      ⊎_elim
      (λ l.
      let d : b - a ≡ suc (b - a - 1) = omega arith in
      let ok = all_above_at (2 ^ suc reach - 1) c most (2 ^ reach) (2 ^ reach) test r rg (omega arith) in
      absurd (omega (arith, above_at (2 ^ suc reach - 1) c most r ok (b - a - 1) (omega arith), one, ap (λ x. steps c x r) d)))
      (λ l. let z : b - a ≡ 0 = omega arith in (omega arith, ap (λ x. steps c x r) (sym z) ∙ one))
      (cases_lt a b)

  same : (bits : ℕ) (w u : BitSet) (a b : ℕ) → Starts (suc reach) bits w a → Starts (suc reach) bits u b
      → (a ≡ b) × (pattern (suc reach) w a ≡ pattern (suc reach) u b) → (i : ℕ) → w i ≡ u i
  same bits w u a b sa tb p i =
      let eq : a ≡ b = p.0 in
      ⊎_elim (λ l. sa.before i l ∙ sym (tb.before i (omega arith)))
      (λ l. ⊎_elim
      (λ m.
      let j : i ≡ a + (i - a) = omega arith in
      let j₂ : i ≡ b + (i - a) = omega arith in
      ap w j ∙ first_bits_same (from_bit a w) (from_bit b u) (suc reach) p.1 (i - a) (omega arith) ∙ ap u (sym j₂))
      (λ m. sa.after i m ∙ sym (tb.after i (omega arith))) (cases_lt i (a + suc reach)))
      (cases_lt i a)

  pub spans_apart : (w u : BitSet) (n : ℕ) → 8 * n + width c ≤ suc most → Span (suc reach) w (8 * n + width c) → Span (suc reach) u (8 * n + width c)
      → amount_of c w n ≡ amount_of c u n → (i : ℕ) → i < 8 * n + width c → w i ≡ u i
  spans_apart w u n h bw bu e i l =
      let bits : ℕ = 8 * n + width c in
      let pw = starts (suc reach) bits w bw in
      let pu = starts (suc reach) bits u bu in
      let alike : fed (below c) 0 (clip bits w) bits ≡ fed (below c) 0 (clip bits u) bits = sym (amount_below c w n) ∙ e ∙ amount_below c u n in
      sym (clip_in bits w i l)
      ∙ ⊎_elim
      (λ m. sym (same bits (clip bits u) (clip bits w) pu.0 pw.0 pu.1 pw.1
      (ordered bits h (clip bits u) (clip bits w) pu.0 pw.0 pu.1 pw.1 (omega arith) (sym alike)) i))
      (λ m. same bits (clip bits w) (clip bits u) pw.0 pu.0 pw.1 pu.1
      (ordered bits h (clip bits w) (clip bits u) pw.0 pu.0 pw.1 pu.1 m alike) i)
      (cases_lt pu.0 pw.0)
      ∙ clip_in bits u i l

-- the sixteen patterns of five bits, over the 8,224 bits of the longest sector
computed : all_above 31 ecc_code 8223 16 16 ≡ true
computed = refl

pub apart : BurstsApart
apart size w u = spans_apart ecc_code ecc_sound 4 (lit≤ tt) 8223 computed w u (bytes_of size) (omega (arith, bytes_most size))

pub none_vanishes : NoBurstVanishes
none_vanishes size w = amount_shows ecc_code ecc_sound w (bytes_of size)
