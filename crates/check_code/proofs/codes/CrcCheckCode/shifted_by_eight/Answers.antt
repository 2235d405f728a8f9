-- Each of the four tables is the list of what its shifts make of each byte.
use Rattle.std.proofs.Common.{rules}
use Rattle.check_code.specs.Code.{crc_code}
use Rattle.check_code.proofs.Table.{by_tables}
use Rattle.check_code.proofs.codes.CrcCheckCode.shifted_by_eight.Goals as goal

pub returns : goal.returns
returns c = by_tables crc_code 40 c.args.register (search rules)
