-- Each bit of the status is on or off.
use Rattle.std.proofs.Common.{◌≡◌, false, not, ◌&&◌, ◌||◌, rules}
use Rattle.std.specs.Option.{option_map_or}
use Rattle.task_file.specs.declared.view.DriveView.{DriveView}
use Rattle.task_file.specs.Bays.{is_floppy}
use Rattle.task_file.proofs.Bits.{weighted}
use Rattle.task_file.proofs.state.State.status.Goals as goal

pub returns : goal.returns
returns c =
    let guarded : c.if-self.from ≡ (c.args.self.now.protection_note || option_map_or (λ (d : DriveView). d.protected && not (is_floppy d.at.bay)) c.args.view false) = search rules in
    search (rules, weighted)
