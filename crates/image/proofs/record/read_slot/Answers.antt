-- The two copies hand over the sector of the slot.
use Rattle.std.proofs.Common.{◌≡◌, ℕ, ◌-◌, List, sym, ap₂, ◌∙◌, arith}
use Rattle.std.proofs.lemmas.Bool.{cond-false, ne_eqb}
use Rattle.sector.specs.Sizes.{bytes_of}
use Rattle.image.specs.Parts.{part}
use Rattle.image.proofs.Attempts.{read_is}
use Rattle.image.proofs.record.read_slot.Goals as goal

pub returns-clause-handed : goal.returns-clause-handed
returns-clause-handed c =
    let r : List ℕ = c.args.track.now in
    let b = c.bytes_range in
    let k = c.check_range in
    let long : b.result.end - b.result.start ≡ bytes_of c.args.size = omega arith in
    let four : k.result.end - k.result.start ≡ 4 = omega arith in
    read_is r c.args.size c.args.slot c.requires c.args.buffer.now _ _
    (c.copy_from_slice.ensures.after ∙ ap₂ (λ (a n : ℕ). part a n r) b.ensures.start long)
    (c.copy_from_slice-2.ensures.after ∙ ap₂ (λ (a n : ℕ). part a n r) k.ensures.start four)
    _ c.bytes.ensures
    ∙ sym (cond-false _ _ _ (ne_eqb _ _ c.if-track-slot.false))
