-- What the calls tell, and the laws.
use Rattle.round_trip.proofs.Laws.{tells}
use Rattle.round_trip.proofs.running.run.Goals as goal

pub returns : goal.returns
returns g c = tells _ _ _ _ c.in_ok-answers.ensures
