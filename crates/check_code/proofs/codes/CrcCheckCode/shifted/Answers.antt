-- The first table is the list of what eight shifts make of each byte.
use Rattle.std.proofs.Common.{rules}
use Rattle.check_code.specs.Code.{crc_code}
use Rattle.check_code.specs.Aligned.{aligned}
use Rattle.check_code.proofs.Table.{table_at}
use Rattle.check_code.proofs.codes.CrcCheckCode.shifted.Goals as goal

pub returns : goal.returns
returns c = table_at (aligned crc_code) 8 c.args.byte (search rules)
