-- A read leads on from the calls that led here.
use Rattle.std.proofs.Common.{rules}
use Rattle.controller.specs.declared.call.Call.TheVariants.{Read}
use Rattle.controller.specs.Access.{state_after_read}
use Rattle.controller.proofs.Reached.{led_on}
use Rattle.controller.proofs.controller.Controller.read_register.Goals as goal

pub invariant_of-self : goal.invariant_of-self
unfolding state_after_read
invariant_of-self g c = record { reached = led_on (Read c.args.number) _ _ (search rules) c.args.self.now.reached }

pub invariant_of-self-in-Offering-Data : goal.invariant_of-self-in-Offering-Data
unfolding state_after_read
invariant_of-self-in-Offering-Data g c = record { reached = led_on (Read c.args.number) _ _ (search rules) c.args.self.now.reached }

pub invariant_of-self-in_default-Status : goal.invariant_of-self-in_default-Status
unfolding state_after_read
invariant_of-self-in_default-Status g c = record { reached = led_on (Read c.args.number) _ _ (search rules) c.args.self.now.reached }
