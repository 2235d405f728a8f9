-- What is left is what was written.
use Rattle.std.proofs.Common.{None, Some, refl}
use Rattle.burst.proofs.Restoring.{restored_found}
use Rattle.burst.proofs.mending.correct_by.Goals as goal

pub returns-in_err-burst-clause-restored : goal.returns-in_err-burst-clause-restored
returns-in_err-burst-clause-restored c check at =
    restored_found c.args.size c.args.difference c.args.bytes.now check at None c.in_err-burst.ensures.first c.args.bytes.now refl

pub returns-clause-restored : goal.returns-clause-restored
returns-clause-restored c check at =
    restored_found c.args.size c.args.difference c.args.bytes.now check at
    (Some c.in_ok-burst.burst) c.in_ok-burst.ensures.first c.mend.new.bytes c.mend.ensures
