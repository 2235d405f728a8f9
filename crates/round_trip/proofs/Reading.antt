-- What a plain read has come to after each turn, from the turn that it began: the sector meant stands as it was written, and no attempt so far has settled it.
use Rattle.std.proofs.Common.{◌≡◌, ℕ, suc, ◌+◌, ◌<◌, Bool, true, false, cond, eqb, List, length, get_or, take, is_some, Some, None, Option, sym, refl, ap, ◌∙◌, subst, ap₂, add-zero, arith}
use Rattle.std.proofs.lemmas.Bool.{eqb-true}
use Rattle.std.proofs.lemmas.Bool.Decides.{nat_tests}
use Rattle.std.specs.Option.{option_map}
use Rattle.sector.specs.Sizes.{bytes_of}
use Rattle.check_code.specs.Code.{check_bytes_of}
use Rattle.check_code.specs.Mode.{code_of}
use Rattle.drive.specs.Model.{Sector, no_sector, slot_of, Showing, Outlook, used_up, DriveModel}
use Rattle.drive.specs.Calls.{nearer, stepped_in, stepped_out, track_under, shown, after_read}
use Rattle.task_file.specs.declared.bay.Bay.{Bay}
use Rattle.task_file.specs.declared.sdh.Selection.{Selection}
use Rattle.task_file.specs.declared.registers.Registers.{Registers}
use Rattle.task_file.specs.declared.command.ReadMode.{ReadMode}
use Rattle.task_file.specs.declared.state.ReadJob.{ReadJob}
use Rattle.task_file.specs.declared.state.Job.{Job}
use Rattle.task_file.specs.declared.state.Job.TheVariants.{Read}
use Rattle.task_file.specs.declared.state.Phase.TheVariants.{Busy, Offering}
use Rattle.task_file.specs.declared.state.State.{State}
use Rattle.task_file.specs.Registers.{cylinder_of}
use Rattle.task_file.specs.Sdh.{size_at, mode_at, selected}
use Rattle.task_file.specs.State.{is_busy, requests}
use Rattle.controller.specs.Turns.{Turned, turned, read_act, worked}
use Rattle.controller.specs.Model.{ControllerModel, turned_in}
use Rattle.controller.specs.declared.call.Call.TheVariants as call
use Rattle.controller.specs.Runs.{called}
use Rattle.histories.specs.Working.{InOrder}
use Rattle.histories.proofs.Orders.{order_call, drive_put}
use Rattle.round_trip.specs.Events.{SectorName, sector_named}
use Rattle.round_trip.specs.Ledger.{Writing}
use Rattle.round_trip.specs.Laws.{Mild, used_bits, outlook_at, sector_now, StandsUnmarked, track_of}
use Rattle.round_trip.proofs.Tracks.{Stands}
use Rattle.round_trip.proofs.Attempts.{after_read_is}
use Rattle.round_trip.proofs.Ledgers.{WrittenThere}
use Rattle.round_trip.proofs.Showings.{Settles, Unsettled, unsettled_more}
use Rattle.round_trip.proofs.Verdicts.{remembered}
use Rattle.round_trip.proofs.Attempted.{Tried, offered, again, failed, tried}
use Rattle.round_trip.proofs.Beginning.{read_selected}

-- ---- the selected drive
-- the sector that the registers name is on it
pub record Selects (b : ControllerModel) (name : SectorName) : Type 0 where
  pub at : Selection
  pub chosen : selected b.state.registers.sdh ≡ Some at
  pub named : sector_named at b.state.registers ≡ name

pub selects : (b : ControllerModel) (name : SectorName) → sector_now b ≡ Some name → Selects b name
selects b name e = by_selection (selected b.state.registers.sdh) refl e
  where
    by_selection : (o : Option Selection) → selected b.state.registers.sdh ≡ o → option_map (λ at. sector_named at b.state.registers) o ≡ Some name → Selects b name
    by_selection (Some at) is e = record { at = at; chosen = is; named = cc }
    by_selection None is e = cc

-- a turn of a job on it
record Leads (bay : Bay) (t : Turned) (e : ControllerModel) : Type 0 where
  state : e.state ≡ t.state
  drive : e.drives bay ≡ t.drive

leads : (at : Selection) (b : ControllerModel) (j : Job) → b.state.phase ≡ Busy j → selected b.state.registers.sdh ≡ Some at
    → Leads at.bay (worked j b.state at (b.drives at.bay)) (called b call.Turn)
leads at b j phase chosen =
    let turns : called b call.Turn ≡ turned_in (Busy j) (Some at) b =
    ap (λ p. turned_in p (selected b.state.registers.sdh) b) phase ∙ ap (λ o. turned_in (Busy j) o b) chosen in
    record { state = ap (λ (e : ControllerModel). e.state) turns; drive = ap (λ (e : ControllerModel). e.drives at.bay) turns ∙ drive_put b (worked j b.state at (b.drives at.bay)).state at.bay _ }

-- a step moves neither the tracks nor the outlook
nearer_track : (d : DriveModel) (goal : ℕ) → (nearer d goal).track ≡ d.track
unfolding stepped_in stepped_out
nearer_track d goal = grind arith

nearer_outlook : (d : DriveModel) (goal : ℕ) → (nearer d goal).outlook ≡ d.outlook
unfolding stepped_in stepped_out
nearer_outlook d goal = grind arith

-- an attempt uses up the first entry of its place
used_there : (o : Outlook) (c head n goal number i : ℕ) → c ≡ goal → n ≡ number → used_up o c head n goal head number i ≡ o goal head number (i + 1)
used_there o c head n goal number i there same = grind (arith, nat_tests)

-- ---- a read from where BUSY came on
-- A plain read begins at a sector that stands as it was written, and of its next nine attempts each shows at most one burst.
pub record Begins (b : ControllerModel) (at : Selection) (m : ReadMode) (x : Writing) : Type 0 where
  pub plain : m.long ≡ false
  pub chosen : selected b.state.registers.sdh ≡ Some at
  pub written : WrittenThere b (sector_named at b.state.registers) x
  pub same_mode : mode_at b.state.registers.sdh ≡ x.mode
  pub mild : (k : ℕ) → k < 9 → Mild (used_bits x.mode (sector_named at b.state.registers)) (outlook_at b (sector_named at b.state.registers) k)

module _ (b : ControllerModel) (at : Selection) (m : ReadMode) (x : Writing) (begins : Begins b at m x) where
  abbrev pub name : SectorName
  name = sector_named at b.state.registers

  abbrev long : length x.bytes ≡ bytes_of name.size
  long = begins.written.1

  abbrev pub shows : ℕ → Showing
  shows = outlook_at b name

  abbrev pub settles : ℕ → Type 0
  settles = Settles x.mode name.size x.bytes long shows

  abbrev pub unsettled : ℕ → Type 0
  unsettled = Unsettled x.mode name.size x.bytes long shows

  abbrev job : ℕ → ReadJob
  job k = record { mode = m; attempts = k; previous = remembered x.mode name.size x.bytes long shows k }

  -- k attempts were made, none of which settled it
  pub record Tries (k : ℕ) (e : ControllerModel) : Type 0 where
    pub few : k < 9
    pub order : InOrder e
    pub phase : e.state.phase ≡ Busy (Read (job k))
    pub registers : e.state.registers ≡ b.state.registers
    pub failure : e.state.failure ≡ b.state.failure
    pub tracks : track_of e name.track ≡ track_of b name.track
    pub outlook : (i : ℕ) → outlook_at e name i ≡ shows (k + i)
    pub so_far : unsettled k

  -- what a turn makes of it
  pub data Next (e : ControllerModel) : Type 0 where
    waits : (k : ℕ) → Tries k e → Next e
    offers : (k : ℕ) → k < 9 → StandsUnmarked b name → settles k → take (bytes_of name.size) e.state.buffer.bytes ≡ x.bytes → e.state.failure ≡ b.state.failure → e.state.phase ≡ Offering m 0
        → e.state.registers.sdh ≡ b.state.registers.sdh → Next e
    fails : (StandsUnmarked b name → unsettled 9) → is_some e.state.failure ≡ true → is_busy e.state.phase ≡ false → (requests e.state.phase ≡ true → e.state.phase ≡ Offering m 0)
        → (m.multiple ≡ false → requests e.state.phase ≡ true) → Next e

  module _ (k : ℕ) (e : ControllerModel) (t : Tries k e) where
    abbrev d : DriveModel
    d = e.drives at.bay

    abbrev goal : ℕ
    goal = cylinder_of e.state.registers

    goal_is : goal ≡ name.track.cylinder
    goal_is = ap cylinder_of t.registers

    chosen_still : selected e.state.registers.sdh ≡ Some at
    chosen_still = ap (λ (r : Registers). selected r.sdh) t.registers ∙ begins.chosen

    stands : Stands (track_of e name.track) name.number name.size x.bytes (check_bytes_of (code_of x.mode) x.bytes)
    stands = subst (λ z. Stands z name.number name.size x.bytes (check_bytes_of (code_of x.mode) x.bytes)) (sym t.tracks) begins.written.0

    -- a step toward the cylinder
    step : (f : ControllerModel) → InOrder f → Leads at.bay (turned e.state (nearer d goal)) f → Tries k f
    step f order l =
        record {
          few = t.few;
          order = order;
          phase = ap (λ (s : State). s.phase) l.state ∙ t.phase;
          registers = ap (λ (s : State). s.registers) l.state ∙ t.registers;
          failure = ap (λ (s : State). s.failure) l.state ∙ t.failure;
          tracks = ap (λ (z : DriveModel). z.track name.track.cylinder name.track.head) l.drive ∙ ap (λ z. z name.track.cylinder name.track.head) (nearer_track d goal) ∙ t.tracks;
          outlook = λ i. ap (λ (z : DriveModel). z.outlook name.track.cylinder name.track.head name.number i) l.drive ∙ ap (λ z. z name.track.cylinder name.track.head name.number i) (nearer_outlook d goal) ∙ t.outlook i;
          so_far = t.so_far;
        }

    -- ---- an attempt at the cylinder
    module _ (there : d.cylinder ≡ goal) (ready : d.ready ≡ true) where
      number : ℕ
      number = e.state.registers.number

      abbrev slot : ℕ
      slot = begins.written.0.slot

      same_number : e.state.registers.number ≡ name.number
      same_number = ap (λ (r : Registers). r.number) t.registers

      same_track : track_under d at.head ≡ track_of b name.track
      same_track = ap (λ c. d.track c at.head) (there ∙ goal_is) ∙ t.tracks

      stands_here : Stands (track_under d at.head) e.state.registers.number name.size x.bytes (check_bytes_of (code_of x.mode) x.bytes)
      stands_here =
          record {
            slot = slot;
            found = ap₂ (λ tr n. slot_of tr n name.size) same_track same_number ∙ begins.written.0.found;
            bytes_are = ap (λ tr. (get_or tr slot no_sector).bytes) same_track ∙ begins.written.0.bytes_are;
            check_are = ap (λ tr. (get_or tr slot no_sector).check) same_track ∙ begins.written.0.check_are;
          }

      shown_here : shown d at.head e.state.registers.number ≡ shows k
      shown_here = ap₂ (λ c n. d.outlook c at.head n 0) (there ∙ goal_is) same_number ∙ t.outlook 0 ∙ ap shows (add-zero k)

      -- the mark is that of the sector where BUSY came on
      abbrev mark : List Sector → Bool
      mark tr = (get_or tr slot no_sector).bad

      outlook_after : (i : ℕ) → (after_read d at.head e.state.registers.number).outlook name.track.cylinder name.track.head name.number i ≡ shows (suc k + i)
      outlook_after i =
          ap (λ (z : DriveModel). z.outlook name.track.cylinder name.track.head name.number i) (after_read_is d at.head e.state.registers.number ready)
          ∙ used_there d.outlook d.cylinder at.head e.state.registers.number name.track.cylinder name.number i (there ∙ goal_is) same_number
          ∙ t.outlook (i + 1) ∙ ap shows (omega arith)

      unmarked_then : StandsUnmarked b name → mark (track_under d at.head) ≡ false
      unmarked_then standing =
          let same : standing.0 ≡ slot = let e = sym standing.1.0 ∙ begins.written.0.found in cc in
          ap mark same_track ∙ ap (λ i. (get_or (track_of b name.track) i no_sector).bad) (sym same) ∙ standing.1.1

      attempt : (f : ControllerModel) → InOrder f → Leads at.bay (read_act e.state (job k) at d) f → Next f
      unfolding stands_here
      attempt f order l =
          by_tried _ l.state
          (tried x.mode name.size x.bytes long shows begins.mild m d at e.state.registers.number e.state ready begins.plain stands_here
          (ap (λ (r : Registers). mode_at r.sdh) t.registers ∙ begins.same_mode) (ap (λ (r : Registers). size_at r.sdh) t.registers)
          k t.few _ shown_here refl)
        where
          by_tried : (u : State) → f.state ≡ u → Tried x.mode name.size x.bytes long shows begins.mild m k (mark (track_under d at.head)) e.state.registers e.state.failure u → Next f
          by_tried u is (offered unmarked settled front same_failure phase same_sdh) =
              offers k t.few (slot, (begins.written.0.found, ap mark (sym same_track) ∙ unmarked)) settled
              (ap (λ (s : State). take (bytes_of name.size) s.buffer.bytes) is ∙ front)
              (ap (λ (s : State). s.failure) is ∙ same_failure ∙ t.failure) (ap (λ (s : State). s.phase) is ∙ phase)
              (ap (λ (s : State). s.registers.sdh) is ∙ same_sdh ∙ ap (λ (r : Registers). r.sdh) t.registers)
          by_tried u is (again under unsettling same_registers same_failure phase) =
              waits (suc k)
              (record {
                few = omega (arith, under);
                order = order;
                phase = ap (λ (s : State). s.phase) is ∙ phase;
                registers = ap (λ (s : State). s.registers) is ∙ same_registers ∙ t.registers;
                failure = ap (λ (s : State). s.failure) is ∙ same_failure ∙ t.failure;
                tracks = ap (λ (z : DriveModel). z.track name.track.cylinder name.track.head) (l.drive ∙ after_read_is d at.head e.state.registers.number ready) ∙ t.tracks;
                outlook = λ i. ap (λ (z : DriveModel). z.outlook name.track.cylinder name.track.head name.number i) l.drive ∙ outlook_after i;
                so_far = unsettled_more x.mode name.size x.bytes long shows k t.so_far unsettling;
              })
          by_tried u is (failed why failure off offering asks) =
              fails
              (λ standing.
              let w = why (unmarked_then standing) in
              let nine : suc k ≡ 9 = omega (arith, w.0, t.few) in
              subst unsettled nine (unsettled_more x.mode name.size x.bytes long shows k t.so_far w.1))
              (ap (λ (s : State). is_some s.failure) is ∙ failure) (ap (λ (s : State). is_busy s.phase) is ∙ off)
              (λ asked. ap (λ (s : State). s.phase) is ∙ offering (ap (λ (s : State). requests s.phase) (sym is) ∙ asked)) (λ single. ap (λ (s : State). requests s.phase) is ∙ asks single)

    pub next : Next (called e call.Turn)
    unfolding worked
    next = by_place (eqb d.cylinder goal) refl (leads at e (Read (job k)) t.phase chosen_still)
      where
        ready : d.ready ≡ true
        ready = (read_selected e (job k) t.order t.phase name (ap (option_map (λ at. sector_named at e.state.registers)) chosen_still ∙ ap (λ r. Some (sector_named at r)) t.registers)).0

        order : InOrder (called e call.Turn)
        order = order_call e call.Turn t.order

        by_place : (there : Bool) → eqb d.cylinder goal ≡ there → Leads at.bay (cond there (read_act e.state (job k) at d) (turned e.state (nearer d goal))) (called e call.Turn) → Next (called e call.Turn)
        by_place true is l = attempt (eqb-true d.cylinder goal is) ready _ order l
        by_place false is l = waits k (step _ order l)
