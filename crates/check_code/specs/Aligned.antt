-- A register that stands at the top of 32 bits, and a byte's worth of shifts.
use Rattle.std.specs.Prelude.{ℕ, ◌-◌, ◌*◌, ◌^◌}
use Rattle.std.specs.Fn.{iterate}
use Rattle.check_code.specs.Code.{Code, width, step}

-- n shifts
abbrev pub steps : Code → ℕ → ℕ → ℕ
steps c n v = iterate (step c) n v

-- the same code with its register at the top of 32 bits
abbrev pub aligned : Code → Code
aligned c = record { top = 31; divisor = c.divisor * 2 ^ (32 - width c); start = c.start * 2 ^ (32 - width c) }
