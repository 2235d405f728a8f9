-- A bit that is on or off counts its weight or nothing.
use Rattle.std.proofs.Common.{◌≡◌, ℕ, ◌*◌, Bool, true, false, cond, mul-zero, mul-one}
use Rattle.std.specs.Int.{from_bool}

pub weighted : (b : Bool) (n : ℕ) → n * from_bool b ≡ cond b n 0
weighted true n = mul-one n
weighted false n = mul-zero n
