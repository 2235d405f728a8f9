-- What is done about each of a sector's attempts, by what the attempts so far have shown of it.
use Rattle.std.proofs.Common.{◌≡◌, ℕ, zero, suc, ◌<◌, ◌≤◌, Bool, true, false, cond, ◌&&◌, eqb, ltb, List, length, Some, None, Option, Ok, Err, Result, sym, refl, ap, ◌∙◌, subst, inl, inr, arith}
use Rattle.std.proofs.lemmas.Bool.{cases_Bool, and_parts, cond_both, eqb-true, eqb-false, ltb-true, ltb-false}
use Rattle.std.proofs.lemmas.Bool.Decides.{nat_tests}
use Rattle.sector.specs.declared.size.SizeCode.{SizeCode}
use Rattle.sector.specs.Sizes.{bytes_of}
use Rattle.check_code.specs.declared.mode.CheckMode.{CheckMode}
use Rattle.drive.specs.declared.answers.ReadError.{ReadError}
use Rattle.drive.specs.declared.answers.ReadError.TheVariants as read_error
use Rattle.drive.specs.Model.{Showing, no_id, no_data_mark, wrong_bits}
use Rattle.task_file.specs.declared.failure.SectorError.{SectorError}
use Rattle.task_file.specs.declared.failure.SectorError.TheVariants as error
use Rattle.task_file.specs.declared.attempts.Verdict.{Verdict}
use Rattle.task_file.specs.declared.attempts.Verdict.TheVariants.{Take, Correct, Retry, Fail}
use Rattle.task_file.specs.Aborting.{is_ecc}
use Rattle.task_file.specs.Attempts.{seen_before, retried, verdict_of}
use Rattle.round_trip.proofs.Codes.{differs_by}
use Rattle.round_trip.proofs.Showings.{difference_shown, Corrects, Corrected, Settles}

module _ (mode : CheckMode) (size : SizeCode) (bytes : List ℕ) (long : length bytes ≡ bytes_of size) (shows : ℕ → Showing) where
  abbrev shown : ℕ → Option ℕ
  shown k = difference_shown mode size bytes long (shows k)

  abbrev settles : ℕ → Type 0
  settles = Settles mode size bytes long shows

  -- the difference that is remembered after k attempts, that of the one just before
  abbrev pub remembered : ℕ → Option ℕ
  remembered zero = None
  remembered (suc k) = shown k

  -- what attempt k shows of the sector, by its mark
  abbrev pub outcome_by : Showing → Bool → Result (Option ℕ) ReadError
  outcome_by no_id bad = Err read_error.NoId
  outcome_by no_data_mark bad = cond bad (Err read_error.BadBlock) (Err read_error.NoDataMark)
  outcome_by (wrong_bits w) bad = cond bad (Err read_error.BadBlock) (Ok (Some (differs_by mode w bytes)))

  -- An unmarked sector is taken or corrected where the attempt settles the read; one that does not is made again, up to nine; a marked one fails.
  pub data Judged (k : ℕ) (bad : Bool) : Verdict → Type 0 where
    taken : bad ≡ false → shown k ≡ Some 0 → Judged k bad Take
    corrected : (d : ℕ) → bad ≡ false → Corrected mode size bytes long shows k → shown k ≡ Some d → Judged k bad (Correct d)
    again : k < 8 → (settles k → ⊥) → Judged k bad (Retry (shown k))
    given_up : (e : SectorError) → 8 ≤ k → (settles k → ⊥) → Judged k bad (Fail e)
    marked : (e : SectorError) → bad ≡ true → Judged k bad (Fail e)

  retried_is : (k : ℕ) (bad : Bool) (e : SectorError) → (settles k → ⊥) → Judged k bad (retried k (shown k) e)
  retried_is k bad e unsettled =
      cond_both (ltb k 8) (Retry (shown k)) (Fail e) (Judged k bad)
      (λ few. again (ltb-true k 8 few) unsettled) (λ all. given_up e (ltb-false k 8 all) unsettled)

  -- an attempt that delivers nothing settles nothing
  nothing_settles : (k : ℕ) → shown k ≡ None → settles k → ⊥
  nothing_settles k e (inl clean) = cc
  nothing_settles zero e (inr c) = c
  nothing_settles (suc k) e (inr c) = let second = c.second in cc

  -- a correction is of a difference that was remembered
  was_remembered : (k d : ℕ) → shown k ≡ Some d → is_ecc mode ≡ true → (d ≡ 0 → ⊥) → seen_before (remembered k) d ≡ true → Corrected mode size bytes long shows k
  was_remembered zero d e ecc ne seen = cc
  was_remembered (suc k) d e ecc ne seen = by_difference (shown k) refl seen
    where
      by_difference : (o : Option ℕ) → shown k ≡ o → seen_before o d ≡ true → Corrects mode size bytes long (shows k) (shows (suc k))
      by_difference None is seen = cc
      by_difference (Some before) is seen =
          record { corrects = grind arith; difference = d; nonzero = ne; first = is ∙ ap Some (eqb-true before d seen); second = e }

  not_remembered : (k d : ℕ) → shown k ≡ Some d → (is_ecc mode && seen_before (remembered k) d) ≡ false → Corrected mode size bytes long shows k → ⊥
  not_remembered zero d e differs c = c
  not_remembered (suc k) d e differs c =
      let same : c.difference ≡ d = let second = c.second in cc in
      let first : shown k ≡ Some d = c.first ∙ ap Some same in
      grind (arith, nat_tests, first, c.corrects)

  -- ---- the verdict
  verdict_unmarked : (k : ℕ) (sh : Showing) → shows k ≡ sh → Judged k false (verdict_of mode k (remembered k) (outcome_by sh false))
  verdict_unmarked k no_id is = let e : shown k ≡ None = ap (difference_shown mode size bytes long) is in
      subst (λ o. Judged k false (retried k o error.IdNotFound)) e (retried_is k false error.IdNotFound (nothing_settles k e))
  verdict_unmarked k no_data_mark is = let e : shown k ≡ None = ap (difference_shown mode size bytes long) is in
      subst (λ o. Judged k false (retried k o error.NoDataMark)) e (retried_is k false error.NoDataMark (nothing_settles k e))
  verdict_unmarked k (wrong_bits w) is =
      let d = differs_by mode w bytes in
      let e : shown k ≡ Some d = ap (difference_shown mode size bytes long) is in
      elim (cases_Bool (eqb d 0)) [
        | inl zero_difference ↦ rw zero_difference (taken refl (e ∙ ap Some (eqb-true d 0 zero_difference)))
        | inr other ↦
            let ne : d ≡ 0 → ⊥ = eqb-false d 0 other in
            rw other (elim (cases_Bool (is_ecc mode && seen_before (remembered k) d)) [
              | inl both ↦
                  let parts = and_parts (is_ecc mode) (seen_before (remembered k) d) both in
                  rw both (corrected d refl (was_remembered k d e parts.0 ne parts.1) e)
              | inr differs ↦
                  rw differs (subst (λ o. Judged k false (retried k o error.Data)) e
                  (retried_is k false error.Data (λ x. elim x [ inl clean ↦ ne (let z = sym e ∙ clean in cc) | inr c ↦ not_remembered k d e differs c ])))
            ])
      ]

  pub judged : (k : ℕ) (bad : Bool) → Judged k bad (verdict_of mode k (remembered k) (outcome_by (shows k) bad))
  judged k false = verdict_unmarked k (shows k) refl
  judged k true = by_showing (shows k) refl
    where
      by_showing : (sh : Showing) → shows k ≡ sh → Judged k true (verdict_of mode k (remembered k) (outcome_by sh true))
      by_showing no_id is = let e : shown k ≡ None = ap (difference_shown mode size bytes long) is in
          subst (λ o. Judged k true (retried k o error.IdNotFound)) e (retried_is k true error.IdNotFound (nothing_settles k e))
      by_showing no_data_mark is = marked error.BadBlock refl
      by_showing (wrong_bits w) is = marked error.BadBlock refl
