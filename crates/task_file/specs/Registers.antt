-- The registers, and what those that the host writes say.
use Rattle.std.specs.Prelude.{ℕ, ◌+◌, ◌*◌, ◌%◌, cond, Some, None, Option, ◌==◌}
use Rattle.drive.specs.declared.place.Place.{Place}
use Rattle.drive.specs.declared.place.SectorAddress.{SectorAddress}
use Rattle.task_file.specs.declared.registers.Register.{Register}
use Rattle.task_file.specs.declared.registers.Register.TheVariants as register
use Rattle.task_file.specs.declared.registers.Registers.{Registers}
use Rattle.task_file.specs.declared.sdh.Selection.{Selection}
use Rattle.task_file.specs.Sdh.{size_at}

-- the number of a register
abbrev pub register_number : Register → ℕ
register_number register.Data = 0
register_number register.Error = 1
register_number register.Count = 2
register_number register.Number = 3
register_number register.CylinderLow = 4
register_number register.CylinderHigh = 5
register_number register.Sdh = 6
register_number register.Status = 7

-- the register of a number; there is none above 7
abbrev pub register_numbered : ℕ → Option Register
register_numbered n =
    cond (n == 0) (Some register.Data)
    (cond (n == 1) (Some register.Error)
    (cond (n == 2) (Some register.Count)
    (cond (n == 3) (Some register.Number)
    (cond (n == 4) (Some register.CylinderLow)
    (cond (n == 5) (Some register.CylinderHigh)
    (cond (n == 6) (Some register.Sdh)
    (cond (n == 7) (Some register.Status) None)))))))

-- the registers when the controller is made, and after a master reset
abbrev pub cleared_registers : Registers
cleared_registers = record { count = 0; number = 0; cylinder_low = 0; cylinder_high = 0; sdh = 0 }

-- the cylinder: of the high byte only bits 1 and 0 count
abbrev pub cylinder_of : Registers → ℕ
cylinder_of r = r.cylinder_high % 4 * 256 + r.cylinder_low

-- how many sectors a count stands for: 0 is 256
abbrev pub sector_count : Registers → ℕ
sector_count r = cond (r.count == 0) 256 r.count

-- one sector fewer, and the next number, each modulo 256
abbrev pub next_sector : Registers → Registers
next_sector r = record r { count = (r.count + 255) % 256; number = (r.number + 1) % 256 }

-- what a written byte leaves in the registers; one written to the error register is dropped
abbrev pub stored : Registers → Register → ℕ → Registers
stored r register.Count b = record r { count = b }
stored r register.Number b = record r { number = b }
stored r register.CylinderLow b = record r { cylinder_low = b }
stored r register.CylinderHigh b = record r { cylinder_high = b }
stored r register.Sdh b = record r { sdh = b }
stored r other b = r

-- ---- the sector that the registers name, under the selected head
-- its place
abbrev pub place_under : Registers → Selection → Place
place_under r at = record { cylinder = cylinder_of r; head = at.head; number = r.number }

-- what an attempt at it names
abbrev pub address_under : Registers → Selection → SectorAddress
address_under r at = record { head = at.head; number = r.number; size = size_at r.sdh }
