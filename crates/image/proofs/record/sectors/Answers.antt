-- The pairs are those of a formatted record where each has a mark.
use Rattle.std.proofs.Common.{◌≡◌, ℕ, ◌+◌, ◌-◌, ◌*◌, ◌/◌, ◌≤◌, List, length, take, drop, ap₂, ◌∙◌, arith, length-drop}
use Rattle.std.proofs.lemmas.Bool.Decides.{nat_tests}
use Rattle.std.proofs.lemmas.List.{length-take-le}
use Rattle.std.specs.Simd.{first_chunks}
use Rattle.image.specs.Record.{count_in, pairs_in}
use Rattle.image.proofs.Tracks.{pairs_cut}
use Rattle.image.proofs.record.sectors.Goals as goal

same_pairs : (r : List ℕ) (pairs : List (List ℕ)) → 386 ≤ length r → count_in r ≤ 64 → pairs ≡ first_chunks 2 (length (take ((2 + 2 * count_in r) - 2) (drop 2 r)) / 2) (take ((2 + 2 * count_in r) - 2) (drop 2 r)) → pairs ≡ pairs_in r
same_pairs r pairs long few e =
    let front : (2 + 2 * count_in r) - 2 ≡ 2 * count_in r = omega arith in
    let cut : length (take ((2 + 2 * count_in r) - 2) (drop 2 r)) ≡ (2 + 2 * count_in r) - 2 = length-take-le _ _ (simp length-drop (omega arith)) in
    let half : length (take ((2 + 2 * count_in r) - 2) (drop 2 r)) / 2 ≡ count_in r = omega arith in
    e ∙ ap₂ (λ (k m : ℕ). first_chunks 2 k (take m (drop 2 r))) half front ∙ pairs_cut r 0 (count_in r) (omega arith)

pub returns-then-marks_fit : goal.returns-then-marks_fit
returns-then-marks_fit c =
    let p = same_pairs c.args.track.now c.as_chunks.result.0.now c.requires (omega arith) c.as_chunks.ensures.front in
    (grind (arith, nat_tests), grind arith, p)

pub returns-else-count-bytes : goal.returns-else-count-bytes
returns-else-count-bytes c =
    let p = same_pairs c.args.track.now c.as_chunks.result.0.now c.requires (omega arith) c.as_chunks.ensures.front in
    elim c.else-count-bytes.branch [ goal.else-count-bytes-via-then-count-bytes+else-marks_fit w ↦ grind (arith, nat_tests) | goal.else-count-bytes-via-else-count-bytes w ↦ grind (arith, nat_tests) ]
