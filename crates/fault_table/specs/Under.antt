-- What an attempt comes to under what it meets, from what it comes to below.
use Rattle.std.specs.Prelude.{◌*◌, cond, ◌++◌, take, drop, Some, None, Option, Err, Result, is_ok}
use Rattle.std.specs.Result.{result_and}
use Rattle.sector.specs.Bits.{BitSet, inverted, from_bit, set_of}
use Rattle.sector.specs.Sizes.{bytes_of}
use Rattle.sector.specs.declared.size.SizeCode.{SizeCode}
use Rattle.drive.specs.declared.buffer.SectorBuffer.{SectorBuffer}
use Rattle.drive.specs.declared.answers.ReadError.{ReadError}
use Rattle.drive.specs.declared.answers.ReadError.TheVariants as read_error
use Rattle.fault_table.specs.declared.entry.FaultEntry.{FaultEntry}
use Rattle.fault_table.specs.declared.entry.FaultKind.TheVariants.{NoId, NoDataMark, WrongBits}

-- the answer of a read
abbrev pub read_under : Option FaultEntry → Result (Unit {0}) ReadError → Result (Unit {0}) ReadError
read_under None r = r
read_under (Some e) r = elim e.kind [ NoId ↦ Err read_error.NoId | NoDataMark ↦ result_and r (Err read_error.NoDataMark) | WrongBits ↦ r ]

-- a sector in the buffer, with more bits wrong
abbrev pub with_wrong_bits : SizeCode → BitSet → SectorBuffer → SectorBuffer
with_wrong_bits size w b =
    record {
      bytes = inverted w (take (bytes_of size) b.bytes) ++ drop (bytes_of size) b.bytes;
      check = inverted (from_bit (8 * bytes_of size) w) b.check;
    }

-- the buffer after a read with this answer below, from the buffer before it and the one that it hands over there: only a
-- delivery puts a sector there
abbrev pub handed_under : Option FaultEntry → SizeCode → Result (Unit {0}) ReadError → SectorBuffer → SectorBuffer → SectorBuffer
handed_under None size r b below = below
handed_under (Some e) size r b below =
    elim e.kind [ NoId ↦ b | NoDataMark ↦ b | WrongBits ↦ cond (is_ok r) (with_wrong_bits size (set_of e.burst) below) below ]
