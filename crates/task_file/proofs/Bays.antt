-- Bays that pass the test for being one are one.
use Rattle.std.proofs.Common.{◌≡◌, true, arith}
use Rattle.task_file.specs.declared.bay.Bay.{Bay}
use Rattle.task_file.specs.Bays.{same_bay}

pub same_bay_is : (a b : Bay) → same_bay a b ≡ true → a ≡ b
same_bay_is a b e = grind arith

pub same_bay_self : (a : Bay) → same_bay a a ≡ true
same_bay_self a = grind arith
