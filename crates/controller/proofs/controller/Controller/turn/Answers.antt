-- A turn leads on from the calls that led here.
use Rattle.std.proofs.Common.{rules}
use Rattle.controller.specs.declared.call.Call.TheVariants.{Turn}
use Rattle.controller.proofs.Reached.{led_on, turned_back}
use Rattle.controller.proofs.controller.Controller.turn.Goals as goal

pub invariant_of-self : goal.invariant_of-self
invariant_of-self g c =
    record {
      reached = led_on Turn _ _
          (turned_back g.D.Drive.meaning c.args.self.now.state _ c.args.self.now.drives c.in-Busy-Some.job c.in-Busy-Some.at c.index.result _ _
          (search rules) (search rules) c.index.ensures.index (search rules) c.work.ensures)
          c.args.self.now.reached;
    }

pub returns-in-Busy-Some : goal.returns-in-Busy-Some
returns-in-Busy-Some g c =
    turned_back g.D.Drive.meaning c.args.self.now.state _ c.args.self.now.drives c.in-Busy-Some.job c.in-Busy-Some.at c.index.result _ _
    (search rules) (search rules) c.index.ensures.index (search rules) c.work.ensures

pub invariant_of-self-in-Busy-Test-None : goal.invariant_of-self-in-Busy-Test-None
invariant_of-self-in-Busy-Test-None g c = record { reached = led_on Turn _ _ (search rules) c.args.self.now.reached }

pub invariant_of-self-in-Busy-None : goal.invariant_of-self-in-Busy-None
invariant_of-self-in-Busy-None g c = record { reached = led_on Turn _ _ (search rules) c.args.self.now.reached }
