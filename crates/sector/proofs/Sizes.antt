-- A sector has from 128 to 1,024 bytes, and is told by its bytes and by its number.
use Rattle.std.proofs.Common.{◌≡◌, ◌≤◌, Some, sym, refl, ap, ◌∙◌, lit≤}
use Rattle.sector.specs.declared.size.SizeCode.{SizeCode}
use Rattle.sector.specs.declared.size.SizeCode.TheVariants.{Bytes256, Bytes512, Bytes1024, Bytes128}
use Rattle.sector.specs.Sizes.{bytes_of, number_of, size_with, size_numbered}

pub bytes_most : (size : SizeCode) → bytes_of size ≤ 1024
bytes_most Bytes256 = lit≤ tt
bytes_most Bytes512 = lit≤ tt
bytes_most Bytes1024 = lit≤ tt
bytes_most Bytes128 = lit≤ tt

pub bytes_least : (size : SizeCode) → 128 ≤ bytes_of size
bytes_least Bytes256 = lit≤ tt
bytes_least Bytes512 = lit≤ tt
bytes_least Bytes1024 = lit≤ tt
bytes_least Bytes128 = lit≤ tt

pub told_by_bytes : (size : SizeCode) → size_with (bytes_of size) ≡ Some size
told_by_bytes Bytes256 = refl
told_by_bytes Bytes512 = refl
told_by_bytes Bytes1024 = refl
told_by_bytes Bytes128 = refl

pub told_by_number : (size : SizeCode) → size_numbered (number_of size) ≡ size
told_by_number Bytes256 = refl
told_by_number Bytes512 = refl
told_by_number Bytes1024 = refl
told_by_number Bytes128 = refl

-- two sizes of one number are one
pub same_number : (a b : SizeCode) → number_of a ≡ number_of b → a ≡ b
same_number a b e = sym (told_by_number a) ∙ ap size_numbered e ∙ told_by_number b
