-- The sector in a slot, and what a read hands over of it.
use Rattle.std.proofs.Common.{◌≡◌, ℕ, ◌+◌, ◌*◌, ◌≤◌, false, List, ◌++◌, length, drop, sym, refl, ap, ap₂, ◌∙◌, arith}
use Rattle.std.proofs.lemmas.Nat.{row_fits}
use Rattle.sector.specs.Bits.{inverted}
use Rattle.sector.specs.Sizes.{bytes_of}
use Rattle.sector.specs.declared.size.SizeCode.{SizeCode}
use Rattle.sector.proofs.Inverted.{inverted_none}
use Rattle.drive.specs.declared.buffer.SectorBuffer.{SectorBuffer}
use Rattle.drive.specs.Model.{intact}
use Rattle.drive.specs.Calls.{delivered}
use Rattle.image.specs.Holds.{length_part}
use Rattle.image.specs.Parts.{part}
use Rattle.image.specs.Record.{count_in, size_in, sector_at, Slot}

module _ (r : List ℕ) (size : SizeCode) (k : ℕ) (s : Slot r size k) where
  -- the slot's bytes and check bytes lie in the record
  pub bytes_fit : (386 + k * bytes_of size) + bytes_of size ≤ length r
  bytes_fit = omega (arith, s.room, row_fits k (bytes_of size) (count_in r) (bytes_of size) s.below (omega arith))

  pub check_fits : (130 + 4 * k) + 4 ≤ 386
  check_fits = omega (arith, s.below, s.few)

  pub sector_size : bytes_of (size_in r) ≡ bytes_of size
  sector_size = ap bytes_of s.same_size

  pub sector_bytes : (sector_at r k).bytes ≡ part (386 + k * bytes_of size) (bytes_of size) r
  sector_bytes = ap (λ (z : ℕ). part (386 + k * z) z r) sector_size

  pub sector_long : length (sector_at r k).bytes ≡ bytes_of size
  sector_long = ap length sector_bytes ∙ length_part _ _ r bytes_fit

  -- what the two copies of a read leave in the buffer
  pub read_is : (b : SectorBuffer) (xs ys : List ℕ) → xs ≡ part (386 + k * bytes_of size) (bytes_of size) r → ys ≡ part (130 + 4 * k) 4 r → (n : ℕ) → n ≡ bytes_of size → ◌≡◌ {A = SectorBuffer} (record { bytes = xs ++ drop n b.bytes; check = ys }) (delivered intact (sector_at r k) b)
  read_is b xs ys ex ey n en =
      let bs = (sector_at r k).bytes in
      let e : xs ++ drop n b.bytes ≡ inverted (λ i. false) bs ++ drop (length bs) b.bytes =
      ap₂ (λ (t : List ℕ) (m : ℕ). t ++ drop m b.bytes) (ex ∙ sym sector_bytes ∙ sym (inverted_none (λ i. false) bs (λ i h. refl))) (en ∙ sym sector_long) in
      let f : ys ≡ inverted (λ i. false) (part (130 + 4 * k) 4 r) = ey ∙ sym (inverted_none (λ i. false) _ (λ i h. refl)) in
      λ j. record { bytes = e j; check = f j }
