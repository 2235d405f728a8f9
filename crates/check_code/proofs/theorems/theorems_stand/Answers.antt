-- The theorems' proofs, cited.
use Rattle.check_code.specs.Code.{crc_code, ecc_code}
use Rattle.check_code.specs.Sound.{crc_sound, ecc_sound}
use Rattle.check_code.proofs.Division.{check_is_remainder}
use Rattle.check_code.proofs.Examples.{examples}
use Rattle.check_code.proofs.theorems.theorems_stand.Goals as goal

pub returns : goal.returns
returns c = record {
  crc = check_is_remainder crc_code crc_sound;
  ecc = check_is_remainder ecc_code ecc_sound;
  examples = examples;
}
