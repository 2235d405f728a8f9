-- The bytes of records.
use Rattle.std.specs.Prelude.{ℕ, ◌-◌, List, ◌++◌, length, take, replicate}

-- a record with a part of a sheet at its front: no more than 512 bytes of it, and zeros after it
abbrev pub record_with : List ℕ → List ℕ
record_with part = take 512 part ++ replicate (512 - length part) 0
