-- What a call does that a host, or a reader of the disks, can tell.
use Rattle.std.specs.Prelude.{ℕ, min, Bool, true, false, cond, not, ◌&&◌, ◌||◌, is_some, Some, None, Ok, Option, is_ok, ◌==◌}
use Rattle.sector.specs.declared.size.SizeCode.{SizeCode}
use Rattle.sector.specs.Sizes.{number_of}
use Rattle.check_code.specs.declared.mode.CheckMode.{CheckMode}
use Rattle.drive.specs.Calls.{write_answer, format_answer}
use Rattle.task_file.specs.declared.registers.Registers.{Registers}
use Rattle.task_file.specs.declared.bay.Bay.{Bay}
use Rattle.task_file.specs.declared.sdh.Selection.{Selection}
use Rattle.task_file.specs.declared.state.WriteJob.{WriteJob}
use Rattle.task_file.specs.declared.state.Job.TheVariants.{Write, Format}
use Rattle.task_file.specs.declared.state.Phase.{Phase}
use Rattle.task_file.specs.declared.state.Phase.TheVariants.{Busy}
use Rattle.task_file.specs.Bays.{same_bay}
use Rattle.task_file.specs.Registers.{cylinder_of, sector_count}
use Rattle.task_file.specs.Sdh.{size_at, mode_at, selected}
use Rattle.task_file.specs.State.{is_busy, requests}
use Rattle.controller.specs.Turns.{ids_asked}
use Rattle.controller.specs.Model.{ControllerModel}
use Rattle.controller.specs.declared.call.Call.{Call}
use Rattle.controller.specs.declared.call.Call.TheVariants as call
use Rattle.controller.specs.Runs.{Answer, answer_to, called}

-- ---- lines and commands
-- BUSY, DRQ and Error, as the host sees them
abbrev pub busy : ControllerModel → Bool
busy b = is_busy b.state.phase

-- bytes are asked for or offered
abbrev pub drq : ControllerModel → Bool
drq b = requests b.state.phase

-- the last command failed
abbrev pub error : ControllerModel → Bool
error b = is_some b.state.failure

-- a call is done, and gives no byte
abbrev pub is_done : Answer → Bool
is_done (Ok None) = true
is_done answer = false

-- the call is an accepted command
abbrev pub accepts : ControllerModel → Call → Bool
accepts b (call.Write n byte) = n == 7 && is_done (answer_to b (call.Write n byte))
accepts b c = false

-- DRQ comes on: it is on after the call, and was off before or was cleared by an accepted command
abbrev pub drq_comes_on : ControllerModel → Call → Bool
drq_comes_on b c = drq (called b c) && (not (drq b) || accepts b c)

-- BUSY comes on
abbrev pub busy_comes_on : ControllerModel → Call → Bool
busy_comes_on b c = busy (called b c) && not (busy b)

-- ---- sectors by name
-- a track: bay, cylinder and head
pub record TrackName : Type 0 where
  pub bay : Bay
  pub cylinder : ℕ
  pub head : ℕ

-- a sector: its track, its number and its size code
pub record SectorName : Type 0 where
  pub track : TrackName
  pub number : ℕ
  pub size : SizeCode

-- two tracks are one
abbrev pub same_track : TrackName → TrackName → Bool
same_track t u = same_bay t.bay u.bay && (t.cylinder == u.cylinder && t.head == u.head)

-- two sizes are one
abbrev pub same_size : SizeCode → SizeCode → Bool
same_size a b = number_of a == number_of b

-- two names are of one sector
abbrev pub same_sector : SectorName → SectorName → Bool
same_sector s t = same_track s.track t.track && (s.number == t.number && same_size s.size t.size)

-- the track that the registers name, on a selected drive
abbrev pub track_named : Selection → Registers → TrackName
track_named at r = record { bay = at.bay; cylinder = cylinder_of r; head = at.head }

-- and the sector there
abbrev pub sector_named : Selection → Registers → SectorName
sector_named at r = record { track = track_named at r; number = r.number; size = size_at r.sdh }

-- ---- writing and formatting
-- What a turn does to the disks: nothing, a sector written, or a track formatted.
pub data Event : Type 0 where
  nothing : Event
  -- the sector, the check mode, and whether plain
  sector_written : SectorName → CheckMode → Bool → Event
  -- the track, how many new sectors it has, and their size code and check mode
  track_formatted : TrackName → ℕ → SizeCode → CheckMode → Event

-- a write attempt is made on the turn that finds the cylinder, and replaces the sector where the drive answers so
abbrev pub write_event : WriteJob → Selection → ControllerModel → Event
write_event j at b =
    let r = b.state.registers in
    cond
    ((b.drives at.bay).cylinder == cylinder_of r && is_ok (write_answer (b.drives at.bay) at.head r.number (size_at r.sdh)))
    (sector_written (sector_named at r) (mode_at r.sdh) (not j.mode.long))
    nothing

-- likewise a format; one of more than 64 sectors is aborted
abbrev pub format_event : Selection → ControllerModel → Event
format_event at b =
    let r = b.state.registers in
    cond
    ((b.drives at.bay).cylinder == cylinder_of r && is_ok (format_answer (b.drives at.bay) at.head (ids_asked b.state) (size_at r.sdh)))
    (track_formatted (track_named at r) (min (sector_count r) 64) (size_at r.sdh) (mode_at r.sdh))
    nothing

-- what a turn does to the tracks of the drive that SDH selects
abbrev pub turn_event : Phase → Option Selection → ControllerModel → Event
turn_event p None b = nothing
turn_event (Busy (Write j)) (Some at) b = write_event j at b
turn_event (Busy Format) (Some at) b = format_event at b
turn_event p sel b = nothing

-- what a call does to the disks: only a turn does anything
unfoldable pub event_of : ControllerModel → Call → Event
event_of b call.Turn = turn_event b.state.phase (selected b.state.registers.sdh) b
event_of b c = nothing
