-- The record of the track is formatted and laid back.
use Rattle.std.proofs.Common.{◌≡◌, length, ap, ◌∙◌, rules}
use Rattle.drive.specs.Calls.{done, format_answer}
use Rattle.image.specs.Meaning.{model_of}
use Rattle.image.specs.Record.{with_format}
use Rattle.image.specs.Image.{image_model}
use Rattle.image.proofs.Calls as calls
use Rattle.image.proofs.image.calls.ImageDrive.format.Goals as goal

pub returns-clause-after : goal.returns-clause-after
returns-clause-after g c =
    let s = c.args.self.now in
    let h = c.in_ok-judge_format.ensures.granted in
    let r = c.record_range-range in
    let e = calls.cut_out s c.args.head h.0 r.result.start r.result.end c.deref_mut.result.now c.deref_mut.ensures.value r.ensures.start r.ensures.end in
    let granted : done ≡ format_answer (model_of s) c.args.head c.args.ids.now c.args.size = c.in_ok-judge_format.ensures.answer in
    let four : length c.args.check ≡ 4 = search rules in
    ap (image_model s.geometry s.protected s.cylinder)
    (calls.laid_is s c.args.head h.0 r.result.start r.result.end c.deref_mut.result.now c.deref_mut.ensures.value r.ensures.start r.ensures.end c.format_track.new.track c.format_track.auto.track)
    ∙ calls.format_done s c.args.head h.0 c.args.ids.now c.args.size c.args.check _ granted h.1 h.2 h.3 four
    (c.format_track.ensures.after ∙ ap (with_format c.args.ids.now c.args.size c.args.check) e)
