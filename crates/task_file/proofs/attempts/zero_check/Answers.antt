-- The front of a row of zeros is a row of zeros.
use Rattle.std.proofs.Common.{ℕ}
use Rattle.std.proofs.lemmas.List.{take-replicate}
use Rattle.sector.specs.Sizes.{bytes_of}
use Rattle.sector.proofs.Sizes.{bytes_most}
use Rattle.task_file.proofs.attempts.zero_check.Goals as goal

pub returns : goal.returns
returns c =
    let zero : ℕ = 0 in
    rw (c.bytes_for.ensures, c.sector.ensures, c.zeroed.ensures, take-replicate (bytes_of c.args.size) 1024 zero (bytes_most c.args.size))
