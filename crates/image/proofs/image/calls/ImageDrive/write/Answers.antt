-- The record of the track is written and laid back.
use Rattle.std.proofs.Common.{ap, ◌∙◌, arith}
use Rattle.std.proofs.lemmas.List.{length-take-le}
use Rattle.image.specs.Image.{image_model}
use Rattle.sector.proofs.Sizes.{bytes_most}
use Rattle.image.proofs.Calls as calls
use Rattle.image.proofs.image.calls.ImageDrive.write.Goals as goal

pub invariant_of-self-clause-fits : goal.invariant_of-self-clause-fits
invariant_of-self-clause-fits g c = calls.still_admissible c.args.self.now c.args.at.head _

pub invariant_of-self-clause-bytes : goal.invariant_of-self-clause-bytes
invariant_of-self-clause-bytes g c =
    let r = c.record_range-range in
    calls.laid_bytes c.args.self.now c.args.at.head c.in-Some.ensures.found.0 r.result.start r.result.end c.deref_mut.result.now c.deref_mut.ensures.value r.ensures.start r.ensures.end c.write_slot.new.track c.write_slot.auto.track c.write_slot.ensures.bytes

pub returns : goal.returns
returns g c =
    let s = c.args.self.now in
    let at = c.args.at in
    let free = c.if-self.false in
    let f = c.in-Some.ensures in
    let r = c.record_range-range in
    let e = calls.cut_out s at.head f.found.0 r.result.start r.result.end c.deref_mut.result.now c.deref_mut.ensures.value r.ensures.start r.ensures.end in
    let full = c.write_slot.ensures.full in
    record {
      answer = calls.write_there s at.head f.found.0 at.number at.size c.in-Some.slot f.slot f.found.1 _ e free _ c.write_slot.ensures.answer;
      after =
          ap (image_model s.geometry s.protected s.cylinder)
          (calls.laid_is s at.head f.found.0 r.result.start r.result.end c.deref_mut.result.now c.deref_mut.ensures.value r.ensures.start r.ensures.end c.write_slot.new.track c.write_slot.auto.track)
          ∙ calls.after_there s at.head f.found.0 at.number at.size c.in-Some.slot f.slot f.found.1 _ e free c.args.buffer.now _ (length-take-le _ _ (omega (arith, full.0, bytes_most at.size))) full.1 c.write_slot.ensures.after;
    }
