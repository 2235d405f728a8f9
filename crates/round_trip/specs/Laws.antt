-- The script read stays the sheet written: the laws over whole histories.
use Rattle.std.specs.Prelude.{◌≡◌, ℕ, suc, ◌+◌, ◌*◌, ◌<◌, ◌≤◌, Bool, true, false, cond, ◌&&◌, ◌⊎◌, List, [], ◌∷◌, ◌++◌, length, Some, Ok, Option, ◌==◌, ◌≢◌, slice_index, slice_index_or}
use Rattle.std.specs.Option.{option_map}
use Rattle.sector.specs.Sizes.{bytes_of}
use Rattle.sector.specs.Bits.{OneBurst}
use Rattle.check_code.specs.declared.mode.CheckMode.{CheckMode}
use Rattle.check_code.specs.declared.mode.CheckMode.TheVariants.{Crc, Ecc}
use Rattle.check_code.specs.Code.{width}
use Rattle.check_code.specs.Mode.{code_of}
use Rattle.burst.specs.Mending.{AtMostOneBurst}
use Rattle.drive.specs.Model.{Sector, no_sector, slot_of, Showing, wrong_bits}
use Rattle.task_file.specs.declared.command.Command.TheVariants.{Read}
use Rattle.task_file.specs.declared.command.ReadMode.{ReadMode}
use Rattle.task_file.specs.Sdh.{mode_at, selected}
use Rattle.controller.specs.Model.{ControllerModel}
use Rattle.controller.specs.declared.call.Call.{Call}
use Rattle.controller.specs.declared.call.Call.TheVariants as call
use Rattle.controller.specs.Runs.{Answer, byte_read, answer_to, called, runs, IsNew, Ran}
use Rattle.round_trip.specs.Events.{busy, drq, error, accepts, drq_comes_on, busy_comes_on, TrackName, SectorName, same_track, sector_named, Event, nothing, sector_written, track_formatted, event_of}
use Rattle.round_trip.specs.Ledger.{Writing, Notes, notes_of}

-- ---- what attempts show
-- how many bits of a sector a code uses
abbrev pub used_bits : CheckMode → SectorName → ℕ
used_bits mode name = 8 * bytes_of name.size + width (code_of mode)

-- of the first `bits` none is wrong, or those that are make one burst
abbrev pub Mild : ℕ → Showing → Type 0
Mild bits (wrong_bits w) = AtMostOneBurst w bits
Mild bits hidden = Unit {0}

-- an intact attempt delivers, with no wrong bit in the bytes or the check bytes that its code uses
abbrev pub Intact : ℕ → Showing → Type 0
Intact bits (wrong_bits w) = (i : ℕ) → i < bits → w i ≡ false
Intact bits hidden = ⊥

-- two attempts show the same burst among the first `bits`
abbrev pub SameBurst : ℕ → Showing → Showing → Type 0
SameBurst bits (wrong_bits w) (wrong_bits u) = OneBurst w bits × ((i : ℕ) → i < bits → w i ≡ u i)
SameBurst bits s t = ⊥

-- what the attempts to come at a sector's place show
abbrev pub outlook_at : ControllerModel → SectorName → ℕ → Showing
outlook_at b name = (b.drives name.track.bay).outlook name.track.cylinder name.track.head name.number

-- ---- a read
-- the sector that the registers name now, if SDH selects a drive
abbrev pub sector_now : ControllerModel → Option SectorName
sector_now b = option_map (λ at. sector_named at b.state.registers) (selected b.state.registers.sdh)

-- A plain read is in force, its sector has a last writing, plain and in the read's check mode, and of its next nine
-- attempts each shows at most one burst.
pub record PlainRead (b : ControllerModel) (n : Notes) (m : ReadMode) (name : SectorName) (x : Writing) : Type 0 where
  pub in_force : n.in_force ≡ Some (Read m)
  pub plain : m.long ≡ false
  pub named : sector_now b ≡ Some name
  pub last_writing : n.ledger name ≡ Some x
  pub written_plain : x.plain ≡ true
  pub same_mode : x.mode ≡ mode_at b.state.registers.sdh
  pub mild : (k : ℕ) → k < 9 → Mild (used_bits x.mode name) (outlook_at b name k)

-- the sector stands on its track, and has no bad mark
abbrev pub StandsUnmarked : ControllerModel → SectorName → Type 0
StandsUnmarked b name =
    let track = (b.drives name.track.bay).track name.track.cylinder name.track.head in
    (k : ℕ) × ((slot_of track name.number name.size ≡ Some k) × ((slice_index_or track k no_sector).bad ≡ false))

-- under ECC two neighbours of the nine show the same burst
abbrev pub Neighbours : CheckMode → ℕ → (ℕ → Showing) → Type 0
Neighbours Crc bits shows = ⊥
Neighbours Ecc bits shows = (k : ℕ) × ((k < 8) × SameBurst bits (shows k) (shows (k + 1)))

-- of the next nine attempts one is intact or, under ECC, two neighbours show the same burst
abbrev pub Readable : CheckMode → ℕ → (ℕ → Showing) → Type 0
Readable mode bits shows = ((k : ℕ) × ((k < 9) × Intact bits (shows k))) ⊎ Neighbours mode bits shows

-- ---- along calls
-- BUSY is on all along
abbrev pub BusyThroughout : ControllerModel → List Call → Type 0
BusyThroughout b [] = busy b ≡ true
BusyThroughout b (c ∷ cs) = (busy b ≡ true) × BusyThroughout (called b c) cs

-- DRQ is on all along, and no command is accepted
abbrev pub DrqThroughout : ControllerModel → List Call → Type 0
DrqThroughout b [] = drq b ≡ true
DrqThroughout b (c ∷ cs) = (drq b ≡ true) × (accepts b c ≡ false) × DrqThroughout (called b c) cs

-- the answer of a read that gives a byte
abbrev pub is_byte : Answer → Bool
is_byte (Ok (Some byte)) = true
is_byte answer = false

-- a data read that is answered draws a byte
abbrev pub draws : ControllerModel → Call → ℕ
draws b (call.Read n) = cond (n == 0 && is_byte (answer_to b (call.Read n))) 1 0
draws b c = 0

-- how many bytes are drawn
abbrev pub drawn_in : ControllerModel → List Call → ℕ
drawn_in b [] = 0
drawn_in b (c ∷ cs) = draws b c + drawn_in (called b c) cs

-- how many turns there are
abbrev pub turn_count : List Call → ℕ
turn_count [] = 0
turn_count (call.Turn ∷ cs) = suc (turn_count cs)
turn_count (c ∷ cs) = turn_count cs

-- no master reset is among the calls
abbrev pub NoReset : List Call → Type 0
NoReset [] = Unit {0}
NoReset (call.Reset ∷ cs) = ⊥
NoReset (c ∷ cs) = NoReset cs

-- ---- the laws, each of a history from a new controller on
-- Same bytes. BUSY comes on for a sector of a plain read and stays on until a turn raises DRQ. With Error off, a data read
-- that comes after i others since then answers byte i of the sector's last writing, and DRQ stays on unless it was the last.
abbrev pub SameBytes : ControllerModel → List Call → Type 0
SameBytes new history =
    (before : List Call) (c : Call) (waiting drawing rest : List Call) (m : ReadMode) (name : SectorName) (x : Writing)
    → let b = runs new (before ++ (c ∷ [])) in
    let offered = called (runs b waiting) call.Turn in
    history ≡ before ++ (c ∷ waiting ++ (call.Turn ∷ drawing ++ (call.Read 0 ∷ rest)))
    → busy_comes_on (runs new before) c ≡ true
    → PlainRead b (notes_of new (before ++ (c ∷ []))) m name x
    → BusyThroughout b waiting
    → drq_comes_on (runs b waiting) call.Turn ≡ true
    → DrqThroughout offered drawing
    → error (runs offered drawing) ≡ false
    → (drawn_in offered drawing < length x.bytes)
    × (answer_to (runs offered drawing) (call.Read 0) ≡ byte_read (slice_index x.bytes (drawn_in offered drawing)))
    × (drawn_in offered drawing + 1 < length x.bytes → drq (called (runs offered drawing) (call.Read 0)) ≡ true)

-- BUSY came on under a read, and is on since: some calls, the one that turned it on, and the calls from there to now.
pub record BusySince (new : ControllerModel) (history : List Call) (m : ReadMode) : Type 0 where
  pub before : List Call
  pub first : Call
  pub waiting : List Call
  pub split : history ≡ before ++ (first ∷ waiting)
  pub comes_on : busy_comes_on (runs new before) first ≡ true
  pub in_force : (notes_of new (before ++ (first ∷ []))).in_force ≡ Some (Read m)
  pub on : BusyThroughout (runs new (before ++ (first ∷ []))) waiting

-- Each DRQ of a read comes so: BUSY came on for it under the same command, and stayed on until a turn raised DRQ.
abbrev pub EveryRequest : ControllerModel → List Call → Type 0
EveryRequest new history =
    (before : List Call) (c : Call) (rest : List Call) (m : ReadMode)
    → history ≡ before ++ (c ∷ rest)
    → drq_comes_on (runs new before) c ≡ true
    → (notes_of new (before ++ (c ∷ []))).in_force ≡ Some (Read m)
    → (c ≡ call.Turn) × BusySince new before m

-- Clean exactly when it can be. Of a plain single-sector read that is accepted and not aborted: where a turn raises DRQ, with
-- BUSY on until then, Error is off exactly when the sector stands unmarked and is readable; and one of the first 1,032 turns
-- does, unless a reset comes first.
abbrev pub CleanExactlyWhen : ControllerModel → List Call → Type 0
CleanExactlyWhen new history =
    (before : List Call) (byte : ℕ) (after : List Call) (m : ReadMode) (name : SectorName) (x : Writing)
    → let b = runs new (before ++ (call.Write 7 byte ∷ [])) in
    history ≡ before ++ (call.Write 7 byte ∷ after)
    → accepts (runs new before) (call.Write 7 byte) ≡ true
    → busy b ≡ true
    → PlainRead b (notes_of new (before ++ (call.Write 7 byte ∷ []))) m name x
    → m.multiple ≡ false
    → ((waiting rest : List Call) → after ≡ waiting ++ (call.Turn ∷ rest) → BusyThroughout b waiting → drq_comes_on (runs b waiting) call.Turn ≡ true
    → (error (called (runs b waiting) call.Turn) ≡ false → StandsUnmarked b name × Readable x.mode (used_bits x.mode name) (outlook_at b name))
    × (StandsUnmarked b name → Readable x.mode (used_bits x.mode name) (outlook_at b name) → error (called (runs b waiting) call.Turn) ≡ false))
    × (1032 ≤ turn_count after
    → (waiting : List Call) × ((rest : List Call) × ((after ≡ waiting ++ (call.Turn ∷ rest)) × (turn_count waiting < 1032) × BusyThroughout b waiting
    × (NoReset waiting → drq_comes_on (runs b waiting) call.Turn ≡ true))))

-- a track of the drive in a bay
abbrev pub track_of : ControllerModel → TrackName → List Sector
track_of b t = (b.drives t.bay).track t.cylinder t.head

-- what an event leaves alone: every other track, and of the track of a written sector every other sector
abbrev pub LeftAlone : Event → ControllerModel → ControllerModel → Type 0
LeftAlone nothing b e = (t : TrackName) → track_of e t ≡ track_of b t
LeftAlone (sector_written name mode plain) b e =
    ((t : TrackName) → same_track name.track t ≡ false → track_of e t ≡ track_of b t)
    × ((k : ℕ) → (slot_of (track_of b name.track) name.number name.size ≢ Some k) → slice_index_or (track_of e name.track) k no_sector ≡ slice_index_or (track_of b name.track) k no_sector)
    × (length (track_of e name.track) ≡ length (track_of b name.track))
LeftAlone (track_formatted name count size mode) b e = (t : TrackName) → same_track name t ≡ false → track_of e t ≡ track_of b t

-- Nothing else moves: a call leaves every sector alone but the one being written or those of the track being formatted.
abbrev pub NothingElseMoves : ControllerModel → List Call → Type 0
NothingElseMoves new history =
    (before : List Call) (c : Call) (rest : List Call) → history ≡ before ++ (c ∷ rest)
    → LeftAlone (event_of (runs new before) c) (runs new before) (called (runs new before) c)

-- BUSY goes off by the 1,032nd turn.
abbrev pub BusyEnds : ControllerModel → List Call → Type 0
BusyEnds new history =
    (before after : List Call) → history ≡ before ++ after → 1032 ≤ turn_count after
    → (waiting : List Call) × ((rest : List Call) × ((after ≡ waiting ++ rest) × (turn_count waiting ≤ 1032) × (busy (runs (runs new before) waiting) ≡ false)))

-- The theorem, whole, of a history from a new controller on.
pub record RoundTrip (new : ControllerModel) (history : List Call) : Type 0 where
  pub same_bytes : SameBytes new history
  pub every_request : EveryRequest new history
  pub clean_exactly_when : CleanExactlyWhen new history
  pub nothing_else_moves : NothingElseMoves new history
  pub busy_ends : BusyEnds new history

-- ---- what is promised of every history
-- The theorem holds of all new controllers, over whatever drives, and all histories.
unfoldable pub ScriptIsSheet : Type 0
ScriptIsSheet = (new : ControllerModel) → IsNew new → (history : List Call) → RoundTrip new history

-- What a run tells: what its calls tell, and that the laws hold of every history that led to where it began, continued by them.
pub record Tells (before : ControllerModel) (calls : List Call) (given : List Answer) (after : ControllerModel) : Type 0 where
  pub ran : Ran before calls given after
  pub laws : (new : ControllerModel) → IsNew new → (history : List Call) → runs new history ≡ before → RoundTrip new (history ++ calls)
