-- A write leads on from the calls that led here.
use Rattle.std.proofs.Common.{rules}
use Rattle.controller.specs.declared.call.Call.TheVariants.{Write}
use Rattle.controller.specs.Access.{state_after_write}
use Rattle.controller.proofs.Reached.{led_on}
use Rattle.controller.proofs.controller.Controller.write_register.Goals as goal

pub invariant_of-self-in-Taking-Data : goal.invariant_of-self-in-Taking-Data
unfolding state_after_write
invariant_of-self-in-Taking-Data g c = record { reached = led_on (Write c.args.number c.args.byte) _ _ (search rules) c.args.self.now.reached }

pub invariant_of-self-in-Rest-default : goal.invariant_of-self-in-Rest-default
unfolding state_after_write
invariant_of-self-in-Rest-default g c = record { reached = led_on (Write c.args.number c.args.byte) _ _ (search rules) c.args.self.now.reached }

pub invariant_of-self-in_default-Status : goal.invariant_of-self-in_default-Status
unfolding state_after_write
invariant_of-self-in_default-Status g c = record { reached = led_on (Write c.args.number c.args.byte) _ _ (search rules) c.args.self.now.reached }
