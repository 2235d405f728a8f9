-- The four sector sizes and their codes.
use Rattle.std.specs.Prelude.{ℕ, ◌%◌, cond, Some, None, Option, ◌==◌}
use Rattle.sector.specs.declared.size.SizeCode.{SizeCode}
use Rattle.sector.specs.declared.size.SizeCode.TheVariants.{Bytes256, Bytes512, Bytes1024, Bytes128}

-- how many bytes a sector of this size has
abbrev pub bytes_of : SizeCode → ℕ
bytes_of Bytes256 = 256
bytes_of Bytes512 = 512
bytes_of Bytes1024 = 1024
bytes_of Bytes128 = 128

-- the number of the code
abbrev pub number_of : SizeCode → ℕ
number_of Bytes256 = 0
number_of Bytes512 = 1
number_of Bytes1024 = 2
number_of Bytes128 = 3

-- the size of a sector that has so many bytes, if sectors come in it
abbrev pub size_with : ℕ → Option SizeCode
size_with bytes =
    cond (bytes == 256) (Some Bytes256) (cond (bytes == 512) (Some Bytes512) (cond (bytes == 1024) (Some Bytes1024) (cond (bytes == 128) (Some Bytes128) None)))

-- the size that a number names: of the number only its lowest two bits count
abbrev pub size_numbered : ℕ → SizeCode
size_numbered number =
    cond (number % 4 == 0) Bytes256 (cond (number % 4 == 1) Bytes512 (cond (number % 4 == 2) Bytes1024 Bytes128))
