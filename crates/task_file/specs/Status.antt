-- The status register.
use Rattle.std.specs.Prelude.{ℕ, ◌+◌, false, cond, not, ◌&&◌, ◌||◌, Option, is_some}
use Rattle.std.specs.Option.{option_map_or}
use Rattle.task_file.specs.declared.state.State.{State}
use Rattle.task_file.specs.declared.view.DriveView.{DriveView}
use Rattle.task_file.specs.Bays.{is_floppy}
use Rattle.task_file.specs.State.{is_busy, requests}

-- What a read of the status register gives: 80h while BUSY is on. Otherwise bits 6 and 4 say that the selected drive is
-- ready, bit 5 that it is a protected Winchester or the protection note is set, bit 3 is DRQ, bit 2 Corrected, bit 0 Error.
-- Where no drive is selected, none is ready or protected.
abbrev pub status_of : State → Option DriveView → ℕ
status_of s v =
    cond (is_busy s.phase) 0x80
    (cond (option_map_or (λ d. d.ready) v false) 0x50 0 + cond (s.protection_note || option_map_or (λ d. d.protected && not (is_floppy d.at.bay)) v false) 0x20 0
    + cond (requests s.phase) 0x08 0 + cond s.corrected 0x04 0 + cond (is_some s.failure) 0x01 0)
