-- No call led to a controller that is made.
use Rattle.std.proofs.Common.{[], refl}
use Rattle.controller.specs.Runs.{runs}
use Rattle.controller.proofs.Reached.{new_made}
use Rattle.controller.proofs.controller.Controller.new.Goals as goal

pub invariant_of-result : goal.invariant_of-result
unfolding runs
invariant_of-result g c =
    record { reached = ∣ record { new = _; is_new = new_made g.D.Drive.meaning _ g.met.D.Drive.limits g.met.D.Drive.bounded c.args.drives _ c.new.ensures; history = []; leads = refl } ∣₁ }

pub returns-clause-new : goal.returns-clause-new
returns-clause-new g c = new_made g.D.Drive.meaning _ g.met.D.Drive.limits g.met.D.Drive.bounded c.args.drives _ c.new.ensures
