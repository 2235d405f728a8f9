-- Questions that are asked one after another.
use Rattle.std.specs.Prelude.{Bool, cond}

-- what is answered where a test fails, and else what comes of the rest
abbrev pub unless : {A : Type 0} → Bool → A → A → A
unless test fails rest = cond test rest fails
