-- The bays, by the board's numbers.
use Rattle.std.specs.Prelude.{ℕ, Bool, true, false, ◌==◌}
use Rattle.task_file.specs.declared.bay.Bay.{Bay}
use Rattle.task_file.specs.declared.bay.Bay.TheVariants.{Winchester1, Floppy1}

-- the board's number of a bay
abbrev pub bay_number : Bay → ℕ
bay_number Winchester1 = 1
bay_number Floppy1 = 4

-- where the drive of a bay stands among all drives
abbrev pub bay_index : Bay → ℕ
bay_index Winchester1 = 0
bay_index Floppy1 = 1

-- two bays are one
abbrev pub same_bay : Bay → Bay → Bool
same_bay a b = bay_number a == bay_number b

-- a bay for a floppy, whatever drive is in it
abbrev pub is_floppy : Bay → Bool
is_floppy Winchester1 = false
is_floppy Floppy1 = true
