-- The sector meant is the one in the slot that the search found.
use Rattle.std.proofs.Common.{sym}
use Rattle.drive.specs.Calls.{after_read}
use Rattle.image.proofs.Calls.{unused, read_there, hand_there}
use Rattle.image.proofs.image.calls.ImageDrive.read.Goals as goal

pub returns-clause-answer : goal.returns-clause-answer
returns-clause-answer g c =
    let at = c.args.at in
    let f = c.in-Some.ensures in
    read_there c.args.self.now at.head f.found.0 at.number at.size c.in-Some.slot f.slot f.found.1 _ c.record_under.ensures.1 _ c.read_slot.ensures.answer

pub returns-clause-handed : goal.returns-clause-handed
returns-clause-handed g c =
    let at = c.args.at in
    let f = c.in-Some.ensures in
    hand_there c.args.self.now at.head f.found.0 at.number at.size c.in-Some.slot f.slot f.found.1 _ c.record_under.ensures.1 _ _ c.read_slot.ensures.handed

pub returns-in_default-clause-after : goal.returns-in_default-clause-after
unfolding after_read
returns-in_default-clause-after g c = sym (unused c.args.self.now c.args.at.head c.args.at.number)
