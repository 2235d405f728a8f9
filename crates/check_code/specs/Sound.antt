-- Both codes are sound.
use Rattle.std.specs.Prelude.{refl}
use Rattle.std.proofs.Common.{lit<, lit≤}
use Rattle.check_code.specs.Code.{crc_code, ecc_code}
use Rattle.check_code.specs.Laws.{Sound}

-- 16 bits, an odd polynomial below 2^17, a start that fits
pub crc_sound : Sound crc_code
crc_sound = record { least = lit≤ tt; most = lit≤ tt; low = lit≤ tt; high = lit< tt; odd = refl; fits = lit< tt }

-- the same of 32 bits
pub ecc_sound : Sound ecc_code
ecc_sound = record { least = lit≤ tt; most = lit≤ tt; low = lit≤ tt; high = lit< tt; odd = refl; fits = lit< tt }
