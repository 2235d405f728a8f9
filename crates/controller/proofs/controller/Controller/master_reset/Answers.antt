-- A reset leads on from the calls that led here.
use Rattle.std.proofs.Common.{rules}
use Rattle.controller.specs.declared.call.Call.TheVariants.{Reset}
use Rattle.controller.proofs.Reached.{led_on}
use Rattle.controller.proofs.controller.Controller.master_reset.Goals as goal

pub invariant_of-self : goal.invariant_of-self
invariant_of-self g c = record { reached = led_on Reset _ _ (search rules) c.args.self.now.reached }
