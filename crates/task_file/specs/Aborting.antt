-- The commands that are aborted, by what is seen of the selected drive.
use Rattle.std.specs.Prelude.{◌*◌, Bool, true, false, not, ◌&&◌, ◌||◌, Option, nat_le, nat_lt}
use Rattle.std.specs.Option.{option_map_or}
use Rattle.sector.specs.Sizes.{bytes_of}
use Rattle.check_code.specs.declared.mode.CheckMode.{CheckMode}
use Rattle.check_code.specs.declared.mode.CheckMode.TheVariants.{Crc, Ecc}
use Rattle.task_file.specs.declared.registers.Registers.{Registers}
use Rattle.task_file.specs.declared.command.Command.{Command}
use Rattle.task_file.specs.declared.command.Command.TheVariants.{Test, Format}
use Rattle.task_file.specs.declared.view.DriveView.{DriveView}
use Rattle.task_file.specs.Bays.{is_floppy}
use Rattle.task_file.specs.Registers.{cylinder_of, sector_count}
use Rattle.task_file.specs.Sdh.{size_at, mode_at}
use Rattle.task_file.specs.Commands.{writes, is_long}

-- a drive that is not ready, or a protected Winchester
abbrev pub is_unusable : DriveView → Bool
is_unusable v = not v.ready || (v.protected && not (is_floppy v.at.bay))

-- the code is ECC
abbrev pub is_ecc : CheckMode → Bool
is_ecc Ecc = true
is_ecc Crc = false

-- a floppy is selected, and ECC or L is 1
abbrev pub unfit_for_floppy : Command → CheckMode → DriveView → Bool
unfit_for_floppy c m v = is_floppy v.at.bay && (is_ecc m || is_long c)

-- a Write or Format on a protected floppy
abbrev pub guards : Command → DriveView → Bool
guards c v = writes c && (is_floppy v.at.bay && v.protected)

-- the head, the count or the room on a track would make the drive refuse a format; a count of 0 is 256
abbrev pub refuses_format : Registers → DriveView → Bool
refuses_format r v = nat_le v.geometry.heads v.at.head || (nat_lt 64 (sector_count r) || nat_lt v.geometry.capacity (sector_count r * bytes_of (size_at r.sdh)))

-- what of the selected drive can stand against any command but Test; the cylinder has to be below the drive's cylinders
abbrev pub is_hindered : Command → Registers → DriveView → Bool
is_hindered c r v = is_unusable v || (unfit_for_floppy c (mode_at r.sdh) v || (nat_le v.geometry.cylinders (cylinder_of r) || guards c v))

-- whether a command is aborted: where no drive is selected, each but Test is
unfoldable pub aborts : Command → Registers → Option DriveView → Bool
aborts Test r v = false
aborts Format r v = option_map_or (λ d. is_hindered Format r d || refuses_format r d) v true
aborts c r v = option_map_or (is_hindered c r) v true

-- whether the protection note is set with an aborted command
abbrev pub notes : Command → Option DriveView → Bool
notes c v = option_map_or (guards c) v false
