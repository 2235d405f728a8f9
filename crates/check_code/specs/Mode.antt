-- The code of a mode.
use Rattle.check_code.specs.Code.{Code, crc_code, ecc_code}
use Rattle.check_code.specs.declared.mode.CheckMode.{CheckMode}
use Rattle.check_code.specs.declared.mode.CheckMode.TheVariants.{Crc, Ecc}

-- the code of a mode
abbrev pub code_of : CheckMode → Code
code_of Crc = crc_code
code_of Ecc = ecc_code
