-- The search: what one register tells of one burst, what the loops know, and what the first burst is.
use Rattle.std.proofs.Common.{◌≡◌, ℕ, zero, suc, ◌+◌, ◌-◌, ◌*◌, ◌/◌, ◌%◌, ◌^◌, ◌<◌, ◌≤◌, Bool, true, false, cond, eqb, ltb, Some, None, sym, refl, ap, ◌∙◌, subst, ap₂, inl, inr, ⊎_elim, mod-lt, mod-eq_of_lt, mul-div_cancel, arith, lit≤, pow_pos, pow_mono}
use lib.Pow.{mod-mod-pow}
use Rattle.std.proofs.lemmas.Bool.{cases_lt, cases_order, lt-ltb, cases_Bool, cond-true, both_ways, eq-eqb, ne_eqb, eqb-true, agree_below_at}
use Rattle.std.proofs.lemmas.Bool.Decides.{nat_tests}
use Rattle.std.proofs.lemmas.Nat.{le-div, mul-le}
use Rattle.sector.specs.declared.size.SizeCode.{SizeCode}
use Rattle.sector.specs.declared.size.SizeCode.TheVariants.{Bytes256, Bytes512, Bytes1024, Bytes128}
use Rattle.sector.specs.declared.wrong_bits.Burst.{Burst}
use Rattle.sector.specs.Sizes.{bytes_of}
use Rattle.sector.specs.Bits.{BitSet, binary, marked, set_of, OneBurst}
use Rattle.sector.proofs.Fed.{first_bits_lt}
use Rattle.sector.proofs.Marked.{marked_beyond}
use Rattle.check_code.specs.Code.{step, ecc_code}
use Rattle.check_code.specs.Aligned.{steps, aligned}
use Rattle.check_code.specs.Sound.{ecc_sound}
use Rattle.check_code.proofs.Register.{below_lt, steps_more, steps_add, steps_small, steps_same}
use Rattle.check_code.proofs.Laws.{balance_cong}
use Rattle.check_code.proofs.Window.{clip, padded, amount_below}
use Rattle.burst.specs.Search.{bits_of, amount, burst_numbered, first_burst, NoneFits, Fits}
use Rattle.burst.proofs.Apart.{apart}
use Rattle.burst.proofs.First.{searched}
use Rattle.burst.proofs.Patterns.{mirror, marked_burst, marked_starts, marked-pattern, marked_cut, named}

-- sets that agree in the sector have one amount
amount_cong : (size : SizeCode) (w u : BitSet) → ((i : ℕ) → i < bits_of size → w i ≡ u i) → amount size w ≡ amount size u
amount_cong size w u h = balance_cong ecc_code 0 w u (bytes_of size) h

-- ---- what the loops know: none of the first n bursts has the amount
abbrev pub has : SizeCode → ℕ → Burst → Bool
has size d b = eqb (amount size (set_of b)) d

abbrev pub Before : SizeCode → ℕ → ℕ → Type 0
Before size d n = (k : ℕ) → k < n → has size d (burst_numbered k) ≡ false

-- the number of a burst
pub numbered : (f half : ℕ) → half < 16 → burst_numbered (16 * f + half) ≡ record { first = f; pattern = 2 * half + 1 }
numbered f half small = ap₂ (λ (x y : ℕ). let b : Burst = record { first = x; pattern = 2 * y + 1 } in b) (omega arith) (omega arith)

module _ (size : SizeCode) (d f half : ℕ) (small : half < 16) where
  has_at : has size d (burst_numbered (16 * f + half)) ≡ eqb (amount size (marked f (2 * half + 1))) d
  has_at = ap (has size d) (numbered f half small)

  before_at : (n : ℕ) → Before size d n → 16 * f + half < n → amount size (marked f (2 * half + 1)) ≡ d → ⊥
  before_at n before l e = both_ways _ (before (16 * f + half) l) (has_at ∙ eq-eqb _ d e)

  before_more : Before size d (16 * f + half) → (amount size (marked f (2 * half + 1)) ≡ d → ⊥) → Before size d (16 * f + (half + 1))
  before_more before unfit k l =
      ⊎_elim (before k)
      (λ m. let at : k ≡ 16 * f + half = omega arith in ap (λ n. has size d (burst_numbered n)) at ∙ has_at ∙ ne_eqb _ d unfit)
      (cases_lt k (16 * f + half))

-- a pattern that reaches past the end stands for a smaller one, which came before
past_end : (size : SizeCode) (d f half : ℕ) → f < bits_of size → half < 16 → 2 ^ (bits_of size - f) ≤ 2 * half + 1
    → Before size d (16 * f + half) → amount size (marked f (2 * half + 1)) ≡ d → ⊥
past_end size d f half inside small long before e =
    let p : ℕ = 2 * half + 1 in
    let room : ℕ = bits_of size - f in
    let q : ℕ = p % 2 ^ room in
    let lt : q < 2 ^ room = mod-lt p (pow_pos room) in
    let s : room ≡ (room - 1) + 1 = omega arith in
    let odd : q % 2 ≡ 1 = ap (λ m. p % 2 ^ m % 2) s ∙ mod-mod-pow p (room - 1) 1 ∙ omega arith in
    let back : 2 * (q / 2) + 1 ≡ q = omega arith in
    before_at size d f (q / 2) (omega arith) (16 * f + half) before (omega arith)
    (ap (λ m. amount size (marked f m)) back ∙ amount_cong size (marked f q) (marked f p) (λ i l. marked_cut (bits_of size) f p i inside l) ∙ e)

-- ---- the first burst that has the amount
module _ (size : SizeCode) (d : ℕ) where
  found_first : (n : ℕ) → n < 16 * bits_of size → Before size d n → has size d (burst_numbered n) ≡ true → first_burst size d ≡ Some (burst_numbered n)
  unfolding first_burst
  found_first n inside before e =
      elim (searched (has size d) burst_numbered (16 * bits_of size)) [
        | inl s ↦
            let at : s.k ≡ n =
            ⊎_elim (λ e. e)
            (λ o. absurd (⊎_elim (λ l. both_ways _ (before s.k l) s.passes) (λ l. both_ways _ (s.fails n l) e) o)) (cases_order s.k n) in
            s.is ∙ ap (λ k. Some (burst_numbered k)) at
        | inr none ↦ absurd (both_ways _ (none.0 n inside) e)
      ]

  pub not_found : Before size d (16 * bits_of size) → first_burst size d ≡ None
  unfolding first_burst
  not_found before =
      elim (searched (has size d) burst_numbered (16 * bits_of size)) [
        | inl s ↦ absurd (both_ways _ (before s.k s.within) s.passes)
        | inr none ↦ none.1
      ]

  pub none_fits : first_burst size d ≡ None → NoneFits size d
  unfolding first_burst
  none_fits e w b h =
      elim (searched (has size d) burst_numbered (16 * bits_of size)) [
        | inl s ↦ cc (s.is)
        | inr none ↦
            let n = named (bits_of size) w b in
            let p : ℕ = n.code in
            let odd = n.odd in
            let small = n.small in
            let inside = n.inside in
            let whole : 2 * (p / 2) + 1 ≡ p = omega arith in
            before_at size d n.first (p / 2) (omega arith) (16 * bits_of size) none.0 (omega arith)
            (ap (λ m. amount size (marked n.first m)) whole ∙ amount_cong size (marked n.first p) w n.is ∙ h)
      ]

  pub fits : (b : Burst) → first_burst size d ≡ Some b → Fits size d b
  unfolding first_burst
  fits b e =
      elim (searched (has size d) burst_numbered (16 * bits_of size)) [
        | inl s ↦
            let k : ℕ = s.k in
            let within = s.within in
            let f : ℕ = k / 16 in
            let p : ℕ = 2 * (k % 16) + 1 in
            let inside : f < bits_of size = omega arith in
            let here : amount size (marked f p) ≡ d = eqb-true _ d s.passes in
            let bu : OneBurst (marked f p) (bits_of size) = marked_burst (bits_of size) f p inside (omega arith) (omega arith) in
            let ends : p < 2 ^ (bits_of size - f) =
            ⊎_elim (λ l. l) (λ long. absurd (past_end size d f (k % 16) inside (omega arith) long (λ i l. s.fails i (omega arith)) here))
            (cases_lt p (2 ^ (bits_of size - f))) in
            let made : Fits size d (burst_numbered k) = record {
              inside = inside;
              odd = omega arith;
              small = omega arith;
              ends = λ i l. marked_beyond f p (bits_of size - f) i ends (omega arith);
              burst = bu;
              has = here;
              only = λ w bw h. apart size w (marked f p) bw bu (h ∙ sym here);
            } in
            subst (Fits size d) (let same : burst_numbered k ≡ b = cc (s.is) in same) made
        | inr none ↦ cc (none.1)
      ]

-- ---- how many of a pair's bits a register may show a burst at, and what it shows there
pub firsts_few : (register seen bit : ℕ) → seen ≡ cond (ltb register (2 ^ 20)) 16 0 → bit < seen → bit < 16
firsts_few register seen bit is h = grind (arith, nat_tests)

pub halves_few : (register seen half : ℕ) → seen ≡ cond (eqb (register / 16) 1) 16 0 → half < seen → half < 16
halves_few register seen half is h = grind (arith, nat_tests)

shown_lt : (p j : ℕ) → mirror p * 2 ^ (15 - j) < 2 ^ 20
shown_lt p j =
    let few : 2 ^ (15 - j) ≤ 2 ^ 15 = pow_mono {i = 15 - j} {j = 15} (omega arith) in
    omega (arith, mul-le (mirror p) (2 ^ (15 - j)) 31 (2 ^ 15) (omega (arith, first_bits_lt (binary p) 5)) few)

-- a pattern's first bit is the top one of what a register shows of it
shown_top : (half j : ℕ) → half < 16 → mirror (2 * half + 1) * 2 ^ (15 - j) / 2 ^ (15 - j) / 16 ≡ 1
shown_top half j h =
    ap (λ x. x / 16) (mul-div_cancel (mirror (2 * half + 1)) (pow_pos (15 - j)))
    ∙ eqb-true _ 1 (agree_below_at (λ half. eqb (mirror (2 * half + 1) / 16) 1) (λ half. true) 16 half refl h)

-- nothing of it falls out of the register
pub shown_is : (p j mirrored : ℕ) → mirrored ≡ mirror p → mirrored * 2 ^ (15 - j) % 2 ^ 32 ≡ mirror p * 2 ^ (15 - j)
shown_is p j mirrored e = ap (λ m. m * 2 ^ (15 - j) % 2 ^ 32) e ∙ mod-eq_of_lt (omega (arith, shown_lt p j))

-- ---- the register, taken back to the last bit of a pair: of the twenty shifts more that it then takes, five are a pattern's,
-- and fifteen lead from the pair's first bit to its last
abbrev pub Back : SizeCode → ℕ → ℕ → ℕ → Type 0
Back size d pair register = steps ecc_code (bits_of size - 16 * pair) register ≡ steps ecc_code 20 d

module _ (size : SizeCode) (d pair j register : ℕ) (inside : 16 * pair + 16 ≤ bits_of size) (near : j < 16)
    (dl : d < 2 ^ 32) (rl : register < 2 ^ 32) (back : Back size d pair register)
    (p : ℕ) (odd : p % 2 ≡ 1) (small : p < 32) (ends : p < 2 ^ (bits_of size - (16 * pair + j))) where
  five_on : steps ecc_code 5 (amount size (marked (16 * pair + j) p)) ≡ steps ecc_code (bits_of size - (16 * pair + j)) (mirror p)
  five_on =
      let f : ℕ = 16 * pair + j in
      let within : f < bits_of size = omega arith in
      let s : BitSet = clip (bits_of size) (marked f p) in
      let e : bits_of size - f ≡ suc (bits_of size - 1 - f) = omega arith in
      steps_more ecc_code 4 (amount size (marked f p))
      ∙ ap (step ecc_code)
      (ap (steps ecc_code 4) (amount_below ecc_code (marked f p) (bytes_of size))
      ∙ padded ecc_code 4 (lit≤ tt) (bits_of size) s f (marked_starts (bits_of size) f p within odd small)
      ∙ ap (steps ecc_code (bits_of size - 1 - f)) (marked-pattern (bits_of size) f p within odd small ends))
      ∙ sym (steps_more ecc_code (bits_of size - 1 - f) (mirror p))
      ∙ ap (λ m. steps ecc_code m (mirror p)) (sym e)

  twenty_on : steps ecc_code 20 (amount size (marked (16 * pair + j) p)) ≡ steps ecc_code (bits_of size - 16 * pair) (mirror p * 2 ^ (15 - j))
  twenty_on =
      let all : 15 + (bits_of size - (16 * pair + j)) ≡ (bits_of size - 16 * pair) + (15 - j) = omega arith in
      steps_add ecc_code 15 5 (amount size (marked (16 * pair + j) p)) ∙ ap (steps ecc_code 15) five_on
      ∙ sym (steps_add ecc_code 15 (bits_of size - (16 * pair + j)) (mirror p))
      ∙ ap (λ m. steps ecc_code m (mirror p)) all ∙ steps_add ecc_code (bits_of size - 16 * pair) (15 - j) (mirror p)
      ∙ ap (steps ecc_code (bits_of size - 16 * pair)) (steps_small ecc_code (15 - j) (mirror p) (omega (arith, shown_lt p j)))

  amount_lt : amount size (marked (16 * pair + j) p) < 2 ^ 32
  amount_lt =
      let w : BitSet = marked (16 * pair + j) p in
      subst (λ x. x < 2 ^ 32) (sym (amount_below ecc_code w (bytes_of size))) (below_lt ecc_code ecc_sound (clip (bits_of size) w) (bits_of size))

  hit : register ≡ mirror p * 2 ^ (15 - j) → amount size (marked (16 * pair + j) p) ≡ d
  hit e =
      steps_same ecc_code ecc_sound 20 (amount size (marked (16 * pair + j) p)) d amount_lt dl
      (twenty_on ∙ ap (steps ecc_code (bits_of size - 16 * pair)) (sym e) ∙ back)

  miss : amount size (marked (16 * pair + j) p) ≡ d → register ≡ mirror p * 2 ^ (15 - j)
  miss e =
      steps_same ecc_code ecc_sound (bits_of size - 16 * pair) register (mirror p * 2 ^ (15 - j)) rl (omega (arith, shown_lt p j))
      (back ∙ ap (steps ecc_code 20) (sym e) ∙ twenty_on)

pub back_first : (size : SizeCode) (d register : ℕ) → steps ecc_code (bits_of size - 20) register ≡ d → Back size d 0 register
back_first size d register e =
    let all : bits_of size - 16 * 0 ≡ 20 + (bits_of size - 20) = omega arith in
    ap (λ m. steps ecc_code m register) all ∙ steps_add ecc_code 20 (bits_of size - 20) register ∙ ap (steps ecc_code 20) e

pub back_more : (size : SizeCode) (d pair register : ℕ) → 16 * pair + 16 ≤ bits_of size → Back size d pair register
    → (next : ℕ) → next ≡ steps ecc_code 16 register → Back size d (pair + 1) next
back_more size d pair register inside back next e =
    let rest : ℕ = bits_of size - 16 * (pair + 1) in
    let sixteen : bits_of size - 16 * pair ≡ rest + 16 = omega arith in
    ap (steps ecc_code rest) e ∙ sym (steps_add ecc_code rest 16 register) ∙ ap (λ m. steps ecc_code m register) (sym sixteen) ∙ back

-- the next pair's register, 32 shifts from this one's
pub next_more : (register next four : ℕ) → next ≡ steps ecc_code 16 register → four ≡ steps (aligned ecc_code) 32 register
    → four ≡ steps ecc_code 16 next
next_more register next four e is = is ∙ steps_add ecc_code 16 16 register ∙ ap (steps ecc_code 16) (sym e)

module _ (size : SizeCode) (d pair register : ℕ) (inside : 16 * pair + 16 ≤ bits_of size) (dl : d < 2 ^ 32) (rl : register < 2 ^ 32)
    (back : Back size d pair register) where
  pub half_more : (j half : ℕ) → j < 16 → half < 16 → Before size d (16 * (16 * pair + j) + half)
      → (register ≡ mirror (2 * half + 1) * 2 ^ (15 - j) → 2 * half + 1 < 2 ^ (bits_of size - (16 * pair + j)) → ⊥)
      → Before size d (16 * (16 * pair + j) + (half + 1))
  half_more j half near small before unfit =
      let p : ℕ = 2 * half + 1 in
      before_more size d (16 * pair + j) half small before (λ e.
      ⊎_elim
      (λ ends. unfit (miss size d pair j register inside near dl rl back p (omega arith) (omega arith) ends e) ends)
      (λ long. past_end size d (16 * pair + j) half (omega arith) small long before e)
      (cases_lt p (2 ^ (bits_of size - (16 * pair + j)))))

  -- a register whose top bit stands for another first bit shows none that begins here
  unseen_more : (j n : ℕ) → j < 16 → n ≤ 16 → (register / 2 ^ (15 - j) / 16 ≡ 1 → ⊥) → Before size d (16 * (16 * pair + j))
      → Before size d (16 * (16 * pair + j) + n)
  unseen_more j zero near few unseen before k l = before k (omega arith)
  unseen_more j (suc n) near few unseen before k l =
      half_more j n near (omega arith) (unseen_more j n near (omega arith) unseen before)
      (λ same ends. unseen (ap (λ x. x / 2 ^ (15 - j) / 16) same ∙ shown_top n j (omega arith))) k (omega arith)

  -- so a first bit is passed once those patterns are that the register may show there
  pub first_more : (j seen half : ℕ) → j < 16 → seen ≡ cond (eqb (register / 2 ^ (15 - j) / 16) 1) 16 0 → half ≡ seen
      → Before size d (16 * (16 * pair + j) + half) → Before size d (16 * (16 * pair + (j + 1)))
  first_more j seen half near is all before k l =
      ⊎_elim
      (λ t. let some : seen ≡ 16 = is ∙ cond-true (eqb (register / 2 ^ (15 - j) / 16) 1) 16 0 t in before k (omega arith))
      (λ t. unseen_more j 16 near (omega arith)
      (λ e. both_ways (eqb (register / 2 ^ (15 - j) / 16) 1) t (eq-eqb (register / 2 ^ (15 - j) / 16) 1 e))
      (λ k l. before k (omega arith)) k (omega arith))
      (cases_Bool (eqb (register / 2 ^ (15 - j) / 16) 1))

  -- a register with more than the low twenty bits shows no burst that begins in the pair
  large_unseen : 2 ^ 20 ≤ register → (j : ℕ) → register / 2 ^ (15 - j) / 16 ≡ 1 → ⊥
  large_unseen large j e =
      let few : 2 ^ (15 - j) ≤ 2 ^ 15 = pow_mono {i = 15 - j} {j = 15} (omega arith) in
      let low : 2 ^ 5 ≤ register / 2 ^ (15 - j) =
      le-div (2 ^ 5) register (2 ^ (15 - j)) (pow_pos (15 - j))
      (omega (arith, mul-le (2 ^ 5) (2 ^ (15 - j)) (2 ^ 5) (2 ^ 15) (lit≤ tt) few)) in
      omega (arith, e, low)

  before_large : 2 ^ 20 ≤ register → Before size d (16 * (16 * pair)) → (n : ℕ) → n ≤ 16 → Before size d (16 * (16 * pair + n))
  before_large large before zero few k l = before k (omega arith)
  before_large large before (suc n) few k l =
      unseen_more n 16 (omega arith) (omega arith) (large_unseen large n) (before_large large before n (omega arith)) k (omega arith)

  -- so the whole pair is passed once those bits are that the register may show a burst at
  pub before_pair : (seen bit : ℕ) → seen ≡ cond (ltb register (2 ^ 20)) 16 0 → bit ≡ seen
      → Before size d (16 * (16 * pair)) → Before size d (16 * (16 * pair + bit)) → Before size d (16 * (16 * (pair + 1)))
  before_pair seen bit is all before so_far k l =
      elim (cases_lt register (2 ^ 20)) [
        | inl shown ↦
            let some : seen ≡ 16 = is ∙ cond-true (ltb register (2 ^ 20)) 16 0 (lt-ltb register (2 ^ 20) shown) in so_far k (omega arith)
        | inr large ↦ before_large large before 16 (omega arith) k (omega arith)
      ]

  pub found : (j half : ℕ) → j < 16 → half < 16 → Before size d (16 * (16 * pair + j) + half)
      → register ≡ mirror (2 * half + 1) * 2 ^ (15 - j) → 2 * half + 1 < 2 ^ (bits_of size - (16 * pair + j))
      → first_burst size d ≡ Some (record { first = 16 * pair + j; pattern = 2 * half + 1 })
  found j half near small before e ends =
      let f : ℕ = 16 * pair + j in
      let is = numbered f half small in
      found_first size d (16 * f + half) (omega arith) before
      (ap (has size d) is ∙ eq-eqb _ d (hit size d pair j register inside near dl rl back (2 * half + 1) (omega arith) (omega arith) ends e))
      ∙ ap Some is

-- a sector's bits go up in pairs of bytes
pub whole_pairs : (size : SizeCode) → 16 * (bits_of size / 16) ≡ bits_of size
whole_pairs Bytes256 = refl
whole_pairs Bytes512 = refl
whole_pairs Bytes1024 = refl
whole_pairs Bytes128 = refl
