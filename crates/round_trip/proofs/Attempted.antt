-- One read attempt at a sector that was written whole: it leaves the sector's bytes in the buffer, is made again, or fails.
use Rattle.std.proofs.Common.{◌≡◌, ℕ, suc, ◌+◌, ◌*◌, ◌<◌, ◌≤◌, Bool, true, false, List, length, get_or, take, drop, is_some, Some, Option, Ok, sym, refl, ap, ◌∙◌, subst, ap₂, inl, inr, arith}
use Rattle.std.proofs.lemmas.List.{take_at}
use Rattle.sector.specs.declared.size.SizeCode.{SizeCode}
use Rattle.sector.specs.declared.wrong_bits.Burst.{Burst}
use Rattle.sector.specs.Sizes.{bytes_of}
use Rattle.sector.specs.Bits.{BitSet, from_bit, inverted, OneBurst, set_of}
use Rattle.sector.proofs.Inverted.{length-inverted}
use Rattle.check_code.specs.declared.mode.CheckMode.{CheckMode}
use Rattle.check_code.specs.declared.mode.CheckMode.TheVariants.{Crc, Ecc}
use Rattle.check_code.specs.Code.{width, check_bytes_of, difference_of}
use Rattle.check_code.specs.Mode.{code_of}
use Rattle.burst.specs.Search.{first_burst}
use Rattle.drive.specs.declared.buffer.SectorBuffer.{SectorBuffer}
use Rattle.drive.specs.Model.{Sector, no_sector, Showing, no_id, no_data_mark, wrong_bits, DriveModel}
use Rattle.drive.specs.Calls.{track_under, shown as next_shown, read_answer, handed_over}
use Rattle.task_file.specs.declared.sdh.Selection.{Selection}
use Rattle.task_file.specs.declared.registers.Registers.{Registers}
use Rattle.task_file.specs.declared.command.ReadMode.{ReadMode}
use Rattle.task_file.specs.declared.failure.Failure.{Failure}
use Rattle.task_file.specs.declared.attempts.Verdict.{Verdict}
use Rattle.task_file.specs.declared.attempts.Verdict.TheVariants.{Take, Correct, Retry, Fail, Abort}
use Rattle.task_file.specs.declared.state.ReadJob.{ReadJob}
use Rattle.task_file.specs.declared.state.Job.TheVariants.{Read}
use Rattle.task_file.specs.declared.state.Phase.TheVariants.{Busy, Offering}
use Rattle.task_file.specs.declared.state.State.{State}
use Rattle.task_file.specs.Sdh.{size_at, mode_at}
use Rattle.task_file.specs.State.{is_busy, requests}
use Rattle.task_file.specs.Attempts.{outcome_of, verdict_of, sector_failure, sector_taken, mended_buffer, read_failed, read_by, read_judged}
use Rattle.round_trip.specs.Laws.{Mild}
use Rattle.round_trip.proofs.Showings.{difference_shown, clean_intact, shows_burst, Corrected, Settles, corrected_nonzero}
use Rattle.round_trip.proofs.Tracks.{Stands}
use Rattle.round_trip.proofs.Attempts as attempt
use Rattle.round_trip.proofs.Codes.{differs_by, clean_bytes, mends}
use Rattle.round_trip.proofs.Verdicts.{remembered, outcome_by, Judged, taken, corrected, again as tries_again, given_up, marked, judged}

-- under ECC the search finds a burst, and inverting it gives the bytes back
ecc_mends : (mode : CheckMode) → mode ≡ Ecc → (size : SizeCode) (w : BitSet) (bytes : List ℕ) → length bytes ≡ bytes_of size → OneBurst w (8 * bytes_of size + width (code_of mode))
    → (f : Burst) × ((first_burst size (differs_by mode w bytes) ≡ Some f) × (inverted (set_of f) (inverted w bytes) ≡ bytes))
ecc_mends Crc is size w bytes long b = cc
ecc_mends Ecc is size w bytes long b = mends size w bytes long (subst (λ n. OneBurst w (8 * n + 32)) (sym long) b)

module _ (mode : CheckMode) (size : SizeCode) (bytes : List ℕ) (long : length bytes ≡ bytes_of size) where
  -- ---- the attempt
  module _ (d : DriveModel) (head number : ℕ) (b : SectorBuffer) (ready : d.ready ≡ true)
      (stands : Stands (track_under d head) number size bytes (check_bytes_of (code_of mode) bytes)) where
    abbrev pub meant : Sector
    meant = get_or (track_under d head) stands.slot no_sector

    abbrev pub handed : SectorBuffer
    handed = handed_over d head number size b

    -- what an unmarked sector delivers
    delivered_is : (w : BitSet) → next_shown d head number ≡ wrong_bits w → meant.bad ≡ false
        → (take (bytes_of size) handed.bytes ≡ inverted w bytes) × (handed.check ≡ inverted (from_bit (8 * length bytes) w) (check_bytes_of (code_of mode) bytes))
    delivered_is w is_shown is_bad =
        let is = attempt.handed_is d head number size b stands.slot ready stands.found (wrong_bits w) false is_shown is_bad in
        rw (is, stands.bytes_are, stands.check_are) (take_at (inverted w bytes) (drop (length bytes) b.bytes) (bytes_of size) (length-inverted w bytes ∙ long), refl)

    pub handed_bytes : (w : BitSet) → next_shown d head number ≡ wrong_bits w → meant.bad ≡ false → take (bytes_of size) handed.bytes ≡ inverted w bytes
    handed_bytes w is_shown is_bad = (delivered_is w is_shown is_bad).0

    -- what its answer and the buffer come to
    pub outcome_is : (shows : ℕ → Showing) (sh : Showing) (bad : Bool) → next_shown d head number ≡ sh → meant.bad ≡ bad
        → outcome_of (read_answer d head number size) false mode size handed ≡ outcome_by mode size bytes long shows sh bad
    outcome_is shows sh bad is_shown is_bad =
        ap (λ a. outcome_of a false mode size handed) (attempt.read_is d head number size b stands.slot ready stands.found sh bad is_shown is_bad)
        ∙ by_showing sh bad is_shown is_bad
      where
        by_showing : (sh : Showing) (bad : Bool) → next_shown d head number ≡ sh → meant.bad ≡ bad
            → outcome_of (attempt.answer_by d head number size b stands.slot ready stands.found sh bad) false mode size handed ≡ outcome_by mode size bytes long shows sh bad
        by_showing no_id bad is_shown is_bad = refl
        by_showing no_data_mark true is_shown is_bad = refl
        by_showing no_data_mark false is_shown is_bad = refl
        by_showing (wrong_bits w) true is_shown is_bad = refl
        by_showing (wrong_bits w) false is_shown is_bad =
            let is = delivered_is w is_shown is_bad in
            ap (λ x. Ok (Some x)) (ap₂ (difference_of (code_of mode)) is.0 is.1)

  -- ---- what it leads to
  module _ (shows : ℕ → Showing) (mild : (k : ℕ) → k < 9 → Mild (8 * bytes_of size + width (code_of mode)) (shows k)) (m : ReadMode) where
    abbrev settles : ℕ → Type 0
    settles = Settles mode size bytes long shows

    -- attempt k, from the state before it: the sector's bytes are offered, or another attempt is made, or the read fails
    pub data Tried (k : ℕ) (bad : Bool) (r : Registers) (o : Option Failure) (t : State) : Type 0 where
      offered : bad ≡ false → settles k → take (bytes_of size) t.buffer.bytes ≡ bytes → t.failure ≡ o → t.phase ≡ Offering m 0 → t.registers.sdh ≡ r.sdh → Tried k bad r o t
      again : k < 8 → (settles k → ⊥) → t.registers ≡ r → t.failure ≡ o
          → t.phase ≡ Busy (Read (record { mode = m; attempts = suc k; previous = difference_shown mode size bytes long (shows k) })) → Tried k bad r o t
      failed : (bad ≡ false → (8 ≤ k) × (settles k → ⊥)) → is_some t.failure ≡ true → is_busy t.phase ≡ false → (requests t.phase ≡ true → t.phase ≡ Offering m 0)
          → (m.multiple ≡ false → requests t.phase ≡ true) → Tried k bad r o t

    module _ (k : ℕ) (few : k < 9) (bad : Bool) (s : State) (on : Selection)
        (front : (w : BitSet) → shows k ≡ wrong_bits w → bad ≡ false → take (bytes_of size) s.buffer.bytes ≡ inverted w bytes)
        (same_size : size_at s.registers.sdh ≡ size) where
      abbrev job : ReadJob
      job = record { mode = m; attempts = k; previous = remembered mode size bytes long shows k }

      -- a sector that is taken
      taken_state : settles k → bad ≡ false → (t : State) → take (bytes_of size) t.buffer.bytes ≡ bytes → t.failure ≡ s.failure → t.registers ≡ s.registers → Tried k bad s.registers s.failure (sector_taken t m)
      taken_state settles unmarked t is same_failure same_registers =
          offered unmarked settles (grind (arith, is)) (grind (arith, same_failure)) (grind arith) (grind (arith, same_registers))

      -- a read that fails
      failed_state : (bad ≡ false → (8 ≤ k) × (settles k → ⊥)) → (f : Failure) → Tried k bad s.registers s.failure (read_failed s m f)
      failed_state why f = failed why (grind arith) (grind arith) (λ asks. grind arith) (λ single. grind arith)

      -- an attempt that shows no difference has delivered the bytes as they were written
      clean_front : bad ≡ false → difference_shown mode size bytes long (shows k) ≡ Some 0 → take (bytes_of size) s.buffer.bytes ≡ bytes
      clean_front unmarked e = by_showing (shows k) refl (mild k few) e
        where
          by_showing : (sh : Showing) → shows k ≡ sh → Mild (8 * bytes_of size + width (code_of mode)) sh → difference_shown mode size bytes long sh ≡ Some 0 → take (bytes_of size) s.buffer.bytes ≡ bytes
          by_showing no_id is z e = cc
          by_showing no_data_mark is z e = cc
          by_showing (wrong_bits w) is z e =
              front w is unmarked
              ∙ clean_bytes mode w bytes (subst (λ n. (i : ℕ) → i < 8 * n + width (code_of mode) → w i ≡ false) (sym long) (clean_intact mode size bytes long (wrong_bits w) z e))

      -- one that is corrected tells the burst, and inverting it gives them back
      mended_front : (d : ℕ) → bad ≡ false → Corrected mode size bytes long shows k → difference_shown mode size bytes long (shows k) ≡ Some d
          → (f : Burst) × ((first_burst size d ≡ Some f) × (inverted (set_of f) (take (bytes_of size) s.buffer.bytes) ≡ bytes) × (length (take (bytes_of size) s.buffer.bytes) ≡ bytes_of size))
      mended_front d unmarked c e = by_showing (shows k) refl (mild k few) e
        where
          told : (mode ≡ Ecc) × (d ≡ 0 → ⊥)
          told = corrected_nonzero mode size bytes long shows k d c e

          by_showing : (sh : Showing) → shows k ≡ sh → Mild (8 * bytes_of size + width (code_of mode)) sh → difference_shown mode size bytes long sh ≡ Some d
              → (f : Burst) × ((first_burst size d ≡ Some f) × (inverted (set_of f) (take (bytes_of size) s.buffer.bytes) ≡ bytes) × (length (take (bytes_of size) s.buffer.bytes) ≡ bytes_of size))
          by_showing no_id is z e = cc
          by_showing no_data_mark is z e = cc
          by_showing (wrong_bits w) is z e =
              let same : differs_by mode w bytes ≡ d = cc in
              let f = ecc_mends mode told.0 size w bytes long (shows_burst mode size bytes long w z (λ zero_difference. told.1 (sym same ∙ zero_difference))) in
              let at_front = front w is unmarked in
              (f.0, (ap (first_burst size) (sym same) ∙ f.1.0, ap (inverted (set_of f.0)) at_front ∙ f.1.1, ap length at_front ∙ length-inverted w bytes ∙ long))

      tried_by : (v : Verdict) → Judged mode size bytes long shows k bad v → Tried k bad s.registers s.failure (read_by v s job on)
      tried_by Take (taken unmarked e) = taken_state (inl e) unmarked s (clean_front unmarked e) refl refl
      tried_by (Correct _) (corrected d unmarked c e) =
          let f = mended_front d unmarked c e in
          let found : first_burst (size_at s.registers.sdh) d ≡ Some f.0 = ap (λ z. first_burst z d) same_size ∙ f.1.0 in
          let fixed = inverted (set_of f.0) (take (bytes_of size) s.buffer.bytes) in
          let at_front = take_at fixed (drop (bytes_of size) s.buffer.bytes) (bytes_of size) (length-inverted (set_of f.0) (take (bytes_of size) s.buffer.bytes) ∙ f.1.2) in
          rw found
          (subst (λ z. Tried k bad s.registers s.failure (sector_taken (record s { corrected = true; buffer = mended_buffer (bytes_of z) f.0 s.buffer }) m)) (sym same_size)
          (taken_state (inr c) unmarked (record s { corrected = true; buffer = mended_buffer (bytes_of size) f.0 s.buffer }) (at_front ∙ f.1.1) refl refl))
      tried_by (Retry _) (tries_again under settles_not) = again under settles_not refl refl (grind arith)
      tried_by (Fail _) (given_up e all settles_not) = failed_state (λ unmarked. (all, settles_not)) (sector_failure s.registers on k e)
      tried_by (Fail _) (marked e is) = failed_state (λ unmarked. cc) (sector_failure s.registers on k e)
      tried_by Abort j = elim j [ ]

    -- an attempt at that sector, on a ready drive on whose track it stands as it was written
    module _ (d : DriveModel) (on : Selection) (number : ℕ) (s : State) (ready : d.ready ≡ true) (plain : m.long ≡ false)
        (stands : Stands (track_under d on.head) number size bytes (check_bytes_of (code_of mode) bytes))
        (same_mode : mode_at s.registers.sdh ≡ mode) (same_size : size_at s.registers.sdh ≡ size) where
      pub tried : (k : ℕ) → k < 9 → (bad : Bool) → next_shown d on.head number ≡ shows k → (get_or (track_under d on.head) stands.slot no_sector).bad ≡ bad
          → Tried k bad s.registers s.failure
          (read_judged (read_answer d on.head number (size_at s.registers.sdh)) (record s { buffer = handed_over d on.head number (size_at s.registers.sdh) s.buffer })
          (record { mode = m; attempts = k; previous = remembered mode size bytes long shows k }) on)
      unfolding read_judged
      tried k few bad is_shown is_bad =
          let j : ReadJob = record { mode = m; attempts = k; previous = remembered mode size bytes long shows k } in
          let b = handed_over d on.head number size s.buffer in
          let outcome : outcome_of (read_answer d on.head number size) m.long mode size b ≡ outcome_by mode size bytes long shows (shows k) bad =
          ap (λ l. outcome_of (read_answer d on.head number size) l mode size b) plain ∙ outcome_is d on.head number s.buffer ready stands shows (shows k) bad is_shown is_bad in
          let front : (w : BitSet) → shows k ≡ wrong_bits w → bad ≡ false → take (bytes_of size) b.bytes ≡ inverted w bytes =
          λ w is unmarked. handed_bytes d on.head number s.buffer ready stands w (is_shown ∙ is) (is_bad ∙ unmarked) in
          let by = tried_by k few bad (record s { buffer = b }) on front same_size _ (judged mode size bytes long shows k bad) in
          subst (λ z. Tried k bad s.registers s.failure (read_by (verdict_of (mode_at s.registers.sdh) k j.previous (outcome_of (read_answer d on.head number z) m.long (mode_at s.registers.sdh) z (handed_over d on.head number z s.buffer))) (record s { buffer = handed_over d on.head number z s.buffer }) j on)) (sym same_size)
          (subst (λ c. Tried k bad s.registers s.failure (read_by (verdict_of c k j.previous (outcome_of (read_answer d on.head number size) m.long c size b)) (record s { buffer = b }) j on)) (sym same_mode)
          (subst (λ o. Tried k bad s.registers s.failure (read_by (verdict_of mode k j.previous o) (record s { buffer = b }) j on)) (sym outcome) by))
