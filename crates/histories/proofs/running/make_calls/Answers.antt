-- All calls have been made.
use Rattle.std.proofs.Common.{arith}
use Rattle.std.proofs.lemmas.Grind.{common_steps}
use Rattle.controller.proofs.Runs.{steps, ran}
use Rattle.histories.proofs.running.make_calls.Goals as goal

pub returns : goal.returns
returns g c = ran _ _ _ _ (grind (arith, common_steps, steps)) (grind (arith, common_steps, steps))
