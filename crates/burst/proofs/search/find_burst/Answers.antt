-- Each turn rules one burst, one first bit or one pair of bytes out; the first that fits is the definition's.
use Rattle.std.proofs.Common.{◌≡◌, ◌+◌, ◌-◌, ◌*◌, ◌/◌, ◌^◌, ◌<◌, ◌≤◌, sym, refl, ap, ◌∙◌, subst, arith, rules, MatchOption}
use Rattle.std.proofs.lemmas.Bool.{lt-ltb, ltb-true, both_ways}
use Rattle.check_code.specs.Code.{ecc_code}
use Rattle.check_code.specs.Aligned.{steps}
use Rattle.burst.specs.Search.{bits_of, NoneFits, Fits}
use Rattle.burst.proofs.Patterns.{mirror}
use Rattle.burst.proofs.Searching.{back_first, back_more, next_more, firsts_few, halves_few, shown_is, half_more, first_more, before_pair, found, whole_pairs, not_found, none_fits, fits}
use Rattle.burst.proofs.search.find_burst.Goals as goal
use Rattle.burst.proofs.search.find_burst.Goals.{else-register-mirrored-via-then-register-mirrored+else-ends_within, else-register-mirrored-via-else-register-mirrored}

pub search-init : goal.search-init
search-init c =
    let d = c.args.difference in
    let r = c.taken_back-register.result in
    let own : bits_of c.args.size ≡ 8 * c.bytes.result + 32 = omega (arith, c.bytes.ensures) in
    record {
      none_found = refl;
      fits = (c.taken_back-register.type_inv, c.shifted_by_two-next.type_inv);
      next_is = c.shifted_by_two-next.ensures;
      passed = λ size e. (
        back_first size d r (ap (λ m. steps ecc_code (m - 20) r) (e ∙ sym own) ∙ c.taken_back-register.ensures),
        λ k l. absurd (omega arith),
      );
    }

pub loop-bit-init : goal.loop-bit-init
loop-bit-init c = (c.search.invariant.none_found, λ size e k l. (c.search.invariant.passed size e).1 k (omega arith))

pub loop-half-init : goal.loop-half-init
loop-half-init c = (c.loop-bit.invariant.0, λ size e k l. c.loop-bit.invariant.1 size e k (omega arith))

pub loop-half-preserved : goal.loop-half-preserved
loop-half-preserved c =
    let d = c.args.difference in
    let s = c.search in
    let j = c.loop-bit.bit in
    let l = c.loop-half in
    let seen = c.halves_seen-half-end in
    let small : d < 2 ^ 32 = search rules in
    let few : l.half < 16 = halves_few (s.register / 2 ^ (15 - j)) seen.result l.half seen.ensures c.loop-half-test.true in
    let bits = c.firsts_seen-bit-end in
    let near : j < 16 = firsts_few s.register bits.result j bits.ensures c.loop-bit-test.true in (
      l.invariant.0,
      λ size e.
          let inside : 16 * s.pair + 16 ≤ bits_of size = omega (arith, c.search-test.true) in
          half_more size d s.pair s.register inside small s.invariant.fits.0 (s.invariant.passed size e).0 j l.half near few
          (l.invariant.1 size e)
          (λ same ends.
          elim c.else-register-mirrored.branch [
            | else-register-mirrored-via-then-register-mirrored+else-ends_within w ↦
                both_ways w.ends_within.result w.if-ends_within.false
                (w.ends_within.ensures
                ∙ lt-ltb (2 * l.half + 1) (2 ^ (8 * c.bytes.result + 32 - (16 * s.pair + j)))
                (subst (λ m. 2 * l.half + 1 < 2 ^ (m - (16 * s.pair + j))) e ends))
            | else-register-mirrored-via-else-register-mirrored w ↦
                w.if-register-mirrored.false (same ∙ sym (shown_is (2 * l.half + 1) j c.mirrored.result c.mirrored.ensures))
          ]),
    )

pub loop-bit-preserved : goal.loop-bit-preserved
loop-bit-preserved c =
    let d = c.args.difference in
    let s = c.search in
    let j = c.loop-bit.bit in
    let f = 16 * s.pair + j in
    let l = c.loop-half in
    let seen = c.halves_seen-half-end in
    let small : d < 2 ^ 32 = search rules in
    let bits = c.firsts_seen-bit-end in
    let near : j < 16 = firsts_few s.register bits.result j bits.ensures c.loop-bit-test.true in
    let done : l.half ≡ seen.result = omega (arith, c.loop-half-test.false) in (
      l.invariant.0,
      λ size e.
          let inside : 16 * s.pair + 16 ≤ bits_of size = omega (arith, c.search-test.true) in
          first_more size d s.pair s.register inside small s.invariant.fits.0 (s.invariant.passed size e).0 j seen.result l.half near
          seen.ensures done (l.invariant.1 size e),
    )

pub search-preserved : goal.search-preserved
search-preserved c =
    let d = c.args.difference in
    let s = c.search in
    let seen = c.firsts_seen-bit-end in
    let l = c.loop-bit in
    let four = c.shifted_by_four in
    let small : d < 2 ^ 32 = search rules in
    let done : l.bit ≡ seen.result = omega (arith, c.loop-bit-test.false) in
    record {
      none_found = l.invariant.0;
      fits = (s.invariant.fits.1, four.type_inv);
      next_is = next_more s.register s.next four.result s.invariant.next_is four.ensures;
      passed = λ size e.
          let inside : 16 * s.pair + 16 ≤ bits_of size = omega (arith, c.search-test.true) in (
            back_more size d s.pair s.register inside (s.invariant.passed size e).0 s.next s.invariant.next_is,
            before_pair size d s.pair s.register inside small s.invariant.fits.0 (s.invariant.passed size e).0 seen.result l.bit
                seen.ensures done (s.invariant.passed size e).1 (l.invariant.1 size e),
          );
    }

pub returns-after-search : goal.returns-after-search
returns-after-search c =
    let size = c.args.size in
    let d = c.args.difference in
    let s = c.search in
    let e : bits_of size ≡ 8 * c.bytes.result + 32 = omega (arith, c.bytes.ensures) in
    let end : 16 * s.pair ≡ bits_of size = omega (arith, c.search-test.false, e, whole_pairs size) in
    let none = not_found size d (λ k l. (s.invariant.passed size e).1 k (omega arith)) in
    record {
      first = s.invariant.none_found ∙ sym none;
      only = subst (λ o. MatchOption o (NoneFits size d) (λ b. Fits size d b)) (sym s.invariant.none_found) (none_fits size d none);
    }

pub returns-then-ends_within : goal.returns-then-ends_within
returns-then-ends_within c =
    let size = c.args.size in
    let d = c.args.difference in
    let s = c.search in
    let j = c.loop-bit.bit in
    let f = 16 * s.pair + j in
    let l = c.loop-half in
    let seen = c.halves_seen-half-end in
    let e : bits_of size ≡ 8 * c.bytes.result + 32 = omega (arith, c.bytes.ensures) in
    let small : d < 2 ^ 32 = search rules in
    let bits = c.firsts_seen-bit-end in
    let near : j < 16 = firsts_few s.register bits.result j bits.ensures c.loop-bit-test.true in
    let few : l.half < 16 = halves_few (s.register / 2 ^ (15 - j)) seen.result l.half seen.ensures c.loop-half-test.true in
    let inside : 16 * s.pair + 16 ≤ bits_of size = omega (arith, c.search-test.true, e) in
    let ends : 2 * l.half + 1 < 2 ^ (bits_of size - f) =
    subst (λ m. 2 * l.half + 1 < 2 ^ (m - f)) (sym e)
    (ltb-true (2 * l.half + 1) (2 ^ (8 * c.bytes.result + 32 - f)) (sym c.ends_within.ensures ∙ c.if-ends_within.true)) in
    let shown : s.register ≡ mirror (2 * l.half + 1) * 2 ^ (15 - j) =
    c.if-register-mirrored.true ∙ shown_is (2 * l.half + 1) j c.mirrored.result c.mirrored.ensures in
    let is =
    found size d s.pair s.register inside small s.invariant.fits.0 (s.invariant.passed size e).0 j l.half near few
    (l.invariant.1 size e) shown ends in
    record { first = sym is; only = fits size d _ is }
