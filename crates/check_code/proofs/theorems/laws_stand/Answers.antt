-- Every sound code has the laws.
use Rattle.check_code.specs.Code.{Code}
use Rattle.check_code.proofs.Laws.{whole, inverting, combining}
use Rattle.check_code.proofs.Window.{burst_shows}
use Rattle.check_code.proofs.theorems.laws_stand.Goals as goal

pub returns : goal.returns
returns g c =
    let code : Code = g.C.CheckCode.code in
    let sound = g.met.C.CheckCode.sound in
    record { whole = whole code sound; inverting = inverting code sound; combining = combining code; shows = burst_shows code sound }
