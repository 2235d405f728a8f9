-- A controller that is made is a new one, and so the laws hold of the calls.
use Rattle.std.proofs.Common.{subst}
use Rattle.round_trip.specs.Laws.{RoundTrip, ScriptIsSheet}
use Rattle.round_trip.proofs.Laws.{round_trip}
use Rattle.round_trip.proofs.running.run_anew.Goals as goal

pub returns-clause-laws : goal.returns-clause-laws
unfolding ScriptIsSheet
returns-clause-laws g c = subst (λ new. RoundTrip new c.args.calls.now) c.new-controller.ensures.model (round_trip _ c.new-controller.ensures.new c.args.calls.now)
