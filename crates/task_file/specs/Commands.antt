-- The commands, and the bytes that give them.
use Rattle.std.specs.Prelude.{ℕ, ◌+◌, ◌*◌, ◌/◌, ◌%◌, Bool, true, false, cond, ◌||◌, Some, None, Option, ◌==◌}
use Rattle.std.specs.Int.{from_bool}
use Rattle.task_file.specs.declared.command.Command.{Command}
use Rattle.task_file.specs.declared.command.Command.TheVariants.{Test, Restore, Seek, Read, Write, Format}

-- whether the bit of this weight is on
abbrev pub has_bit : ℕ → ℕ → Bool
has_bit byte weight = byte / weight % 2 == 1

-- 20h, and 8 for D, 4 for M, 2 for L
abbrev pub read_given : ℕ → Option Command
read_given b = cond (has_bit b 1) None (Some (Read (record { dma = has_bit b 8; multiple = has_bit b 4; long = has_bit b 2 })))

-- 30h, and 4 for M, 2 for L
abbrev pub write_given : ℕ → Option Command
write_given b = cond (has_bit b 1 || has_bit b 8) None (Some (Write (record { multiple = has_bit b 4; long = has_bit b 2 })))

-- the command that a byte gives, if it is accepted: 90h Test, 10h to 1Fh Restore, 70h to 7Fh Seek, 50h Format, Read and Write
unfoldable pub command_of : ℕ → Option Command
command_of b =
    cond (b / 16 == 1) (Some Restore)
    (cond (b / 16 == 2) (read_given b)
    (cond (b / 16 == 3) (write_given b)
    (cond (b == 0x50) (Some Format)
    (cond (b / 16 == 7) (Some Seek)
    (cond (b == 0x90) (Some Test) None)))))

-- Write or Format
abbrev pub writes : Command → Bool
writes (Write m) = true
writes Format = true
writes c = false

-- L is 1; Restore, Seek and Format have none
abbrev pub is_long : Command → Bool
is_long (Read m) = m.long
is_long (Write m) = m.long
is_long c = false

-- the byte that gives a command; Restore and Seek have 16 each, and this is the first
abbrev pub command_byte : Command → ℕ
command_byte Test = 0x90
command_byte Restore = 0x10
command_byte Seek = 0x70
command_byte (Read m) = 0x20 + 8 * from_bool m.dma + 4 * from_bool m.multiple + 2 * from_bool m.long
command_byte (Write m) = 0x30 + 4 * from_bool m.multiple + 2 * from_bool m.long
command_byte Format = 0x50
