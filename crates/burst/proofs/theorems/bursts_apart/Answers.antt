-- The theorem's proof, cited.
use Rattle.burst.proofs.Apart.{apart, none_vanishes}
use Rattle.burst.proofs.theorems.bursts_apart.Goals as goal

pub returns : goal.returns
returns c = record { apart = apart; none_vanishes = none_vanishes }
