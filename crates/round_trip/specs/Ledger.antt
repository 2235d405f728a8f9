-- The last writing of each sector: what follows from the drives of a new controller, the calls and their arguments alone.
use Rattle.std.specs.Prelude.{ℕ, Bool, true, cond, ◌&&◌, List, [], ◌∷◌, ◌++◌, replicate, Some, None, Option, ◌==◌}
use Rattle.std.specs.List.{list_any}
use Rattle.sector.specs.Sizes.{bytes_of}
use Rattle.check_code.specs.declared.mode.CheckMode.{CheckMode}
use Rattle.drive.specs.declared.answers.SectorId.{SectorId}
use Rattle.task_file.specs.declared.command.Command.{Command}
use Rattle.task_file.specs.Commands.{command_of}
use Rattle.task_file.specs.Pairs.{ids_of}
use Rattle.controller.specs.Model.{ControllerModel}
use Rattle.controller.specs.declared.call.Call.{Call}
use Rattle.controller.specs.declared.call.Call.TheVariants as call
use Rattle.controller.specs.Runs.{answer_to, called}
use Rattle.round_trip.specs.Events.{is_done, accepts, drq_comes_on, SectorName, same_track, same_size, same_sector, Event, nothing, sector_written, track_formatted, event_of}

-- a last writing: the bytes, the check mode, and whether plain (a long one has the host's check bytes among its bytes)
pub record Writing : Type 0 where
  pub bytes : List ℕ
  pub mode : CheckMode
  pub plain : Bool

-- the ledger: the last writing of each sector, if it has one
abbrev pub Ledger : Type 0
Ledger = SectorName → Option Writing

-- nothing is written yet
abbrev pub empty_ledger : Ledger
empty_ledger s = None

-- an ID of a format has this number
abbrev pub numbered : List SectorId → ℕ → Bool
numbered ids number = list_any (λ id. id.number == number) ids

-- A written sector is entered with the bytes taken. A format strikes out its track's entries, and enters zeros, plain, for
-- each number that the bytes taken give.
abbrev pub entered : Event → List ℕ → Ledger → Ledger
entered nothing taken l s = l s
entered (sector_written name mode plain) taken l s =
    cond (same_sector name s) (Some (record { bytes = taken; mode = mode; plain = plain })) (l s)
entered (track_formatted name count size mode) taken l s =
    cond (same_track name s.track)
    (cond (numbered (ids_of taken count) s.number && same_size size s.size) (Some (record { bytes = replicate (bytes_of size) 0; mode = mode; plain = true })) None)
    (l s)

-- ---- along a history
-- what is noted of a history: the bytes taken since DRQ came on, the ledger, and the command in force, the last one accepted
pub record Notes : Type 0 where
  pub taken : List ℕ
  pub ledger : Ledger
  pub in_force : Option Command

-- at the making, nothing
abbrev pub no_notes : Notes
no_notes = record { taken = []; ledger = empty_ledger; in_force = None }

-- a data byte that is not refused is taken
abbrev pub taken_by : ControllerModel → Call → List ℕ → List ℕ
taken_by b (call.Write n byte) taken = cond (n == 0 && is_done (answer_to b (call.Write n byte))) (taken ++ (byte ∷ [])) taken
taken_by b c taken = taken

-- the command in force, which is the last accepted one, after a call
abbrev pub forced_by : ControllerModel → Call → Option Command → Option Command
forced_by b (call.Write n byte) o = cond (accepts b (call.Write n byte)) (command_of byte) o
forced_by b call.Reset o = None
forced_by b c o = o

-- what a call adds to the notes
abbrev pub noted : ControllerModel → Call → Notes → Notes
noted b c n =
    record {
      taken = cond (drq_comes_on b c) [] (taken_by b c n.taken);
      ledger = entered (event_of b c) n.taken n.ledger;
      in_force = forced_by b c n.in_force;
    }

-- the notes after more calls
unfoldable pub notes_from : ControllerModel → Notes → List Call → Notes
notes_from b n [] = n
notes_from b n (c ∷ cs) = notes_from (called b c) (noted b c n) cs

-- the notes of a history, from a new controller on
abbrev pub notes_of : ControllerModel → List Call → Notes
notes_of new history = notes_from new no_notes history
