-- The laws of same bytes and of clean reads, and the theorem whole.
use Rattle.std.proofs.Common.{◌≡◌, ℕ, ◌+◌, ◌<◌, true, false, not, ◌||◌, List, [], ◌∷◌, ◌++◌, length, take, is_some, None, sym, ap, ◌∙◌, subst, zero-add, arith, slice_index}
use Rattle.std.proofs.lemmas.Bool.{and_parts, and_from, both_ways}
use Rattle.sector.specs.Sizes.{bytes_of}
use Rattle.task_file.specs.declared.sdh.Selection.{Selection}
use Rattle.task_file.specs.declared.registers.Registers.{Registers}
use Rattle.task_file.specs.declared.command.ReadMode.{ReadMode}
use Rattle.task_file.specs.declared.state.Job.TheVariants.{Read}
use Rattle.task_file.specs.declared.state.Phase.{Phase}
use Rattle.task_file.specs.declared.state.Phase.TheVariants.{Busy, Offering}
use Rattle.task_file.specs.Sdh.{size_at}
use Rattle.task_file.specs.State.{first_read, is_busy, requests}
use Rattle.controller.specs.Model.{ControllerModel}
use Rattle.controller.specs.declared.call.Call.{Call}
use Rattle.controller.specs.declared.call.Call.TheVariants as call
use Rattle.controller.specs.Runs.{Answer, called, runs, IsNew, answer_to, byte_read, Ran}
use Rattle.histories.specs.Working.{InOrder, Counted}
use Rattle.histories.proofs.Orders.{order_call, order_runs}
use Rattle.controller.proofs.Runs.{runs_joined}
use Rattle.round_trip.specs.Events.{busy, drq, error, SectorName, sector_named, busy_comes_on, drq_comes_on}
use Rattle.round_trip.specs.Ledger.{Writing, Notes, notes_of}
use Rattle.round_trip.specs.Laws.{PlainRead, BusyThroughout, DrqThroughout, NoReset, drawn_in, Mild, used_bits, outlook_at, StandsUnmarked, Readable, SameBytes, CleanExactlyWhen, ScriptIsSheet, Tells}
use Rattle.round_trip.proofs.Held.{Held, held_at}
use Rattle.round_trip.proofs.Ledgers.{WrittenThere}
use Rattle.round_trip.proofs.Requests.{every_request}
use Rattle.round_trip.proofs.Drawing.{drawing, draws_next, draws_on}
use Rattle.round_trip.proofs.Showings.{readable_settles, settles_readable}
use Rattle.round_trip.proofs.Waiting.{brought_off, left_at, busy_last, busy_ends, nothing_else_moves}
use Rattle.round_trip.proofs.Beginning.{accepted_clean, accepted_begins, begins_afresh, read_in_force}
use Rattle.round_trip.proofs.Reading.{selects, Begins}
use Rattle.round_trip.proofs.ReadLaws.{test_ends, first_tries, Under, way, reset, under_way, Ends, read, failed, ends}

-- ---- where a read begins
-- a plain read begins at a sector that the registers name
record Start (b : ControllerModel) (m : ReadMode) (name : SectorName) (x : Writing) : Type 0 where
  at : Selection
  named : sector_named at b.state.registers ≡ name
  begins : Begins b at m x
  phase : b.state.phase ≡ Busy (Read (first_read m))

at_more : (new : ControllerModel) (before : List Call) (c : Call) → runs new (before ++ (c ∷ [])) ≡ called (runs new before) c
unfolding runs
at_more new before c = runs_joined new before (c ∷ [])

starts : (n : Notes) (b : ControllerModel) (m : ReadMode) (name : SectorName) (x : Writing) → Held n b → (a : ControllerModel) (c : Call) → b ≡ called a c → busy_comes_on a c ≡ true → PlainRead b n m name x → Start b m name x
starts n b m name x held a c is comes r =
    let on : busy b ≡ true = ap busy is ∙ (and_parts (busy (called a c)) _ comes).0 in
    let j = read_in_force n b m held.kept r.in_force on in
    let fresh = begins_afresh a c j.0 comes (ap (λ (z : ControllerModel). z.state.phase) (sym is) ∙ j.1.0) in
    let sel = selects b name r.named in
    record {
      at = sel.at;
      named = sel.named;
      begins =
          record {
            plain = r.plain;
            chosen = sel.chosen;
            written = subst (λ z. WrittenThere b z x) (sym sel.named) (held.ledger name x r.last_writing r.written_plain);
            same_mode = sym r.same_mode;
            mild = subst (λ z. (k : ℕ) → k < 9 → Mild (used_bits x.mode z) (outlook_at b z k)) (sym sel.named) r.mild;
          };
      phase = j.1.0 ∙ ap (λ z. Busy (Read z)) (fresh ∙ ap first_read j.1.1);
    }

-- ---- same bytes
-- what a data read gives after others at a sector that was read
record Gives (x : Writing) (e : ControllerModel) (cs : List Call) : Type 0 where
  inside : drawn_in e cs < length x.bytes
  answers : answer_to (runs e cs) (call.Read 0) ≡ byte_read (slice_index x.bytes (drawn_in e cs))
  more : drawn_in e cs + 1 < length x.bytes → drq (called (runs e cs) (call.Read 0)) ≡ true

-- once it was read, each byte drawn is the sector's
drawn_is : (m : ReadMode) (x : Writing) (e : ControllerModel) → m.long ≡ false → InOrder e → e.state.phase ≡ Offering m 0 → take (bytes_of (size_at e.state.registers.sdh)) e.state.buffer.bytes ≡ x.bytes
    → length x.bytes ≡ bytes_of (size_at e.state.registers.sdh) → (drawing_calls : List Call) → DrqThroughout e drawing_calls → Gives x e drawing_calls
drawn_is m x e plain order phase bytes long cs on =
    let d = drawing cs e m 0 phase on in
    let z = runs e cs in
    let off : z.state.phase ≡ Offering m (drawn_in e cs) = rw zero-add at d.phase in
    let few : drawn_in e cs < bytes_of (size_at z.state.registers.sdh) = rw plain at (subst (λ q. Counted q z.state.registers) off (order_runs e cs order).counted) in
    let same : take (bytes_of (size_at z.state.registers.sdh)) z.state.buffer.bytes ≡ x.bytes = rw (d.registers, d.buffer) bytes in
    let all : length x.bytes ≡ bytes_of (size_at z.state.registers.sdh) = long ∙ ap (λ (r : Registers). bytes_of (size_at r.sdh)) (sym d.registers) in
    record {
      inside = subst (λ k. drawn_in e cs < k) (sym all) few;
      answers = draws_next z m (drawn_in e cs) off plain few ∙ ap (λ ys. byte_read (slice_index ys (drawn_in e cs))) same;
      more = λ less. draws_on z m (drawn_in e cs) off plain (subst (λ k. drawn_in e cs + 1 < k) all less);
    }

request_is_not_busy : (p : Phase) → requests p ≡ true → is_busy p ≡ false
request_is_not_busy p asks = grind arith

-- from where it began, through the turn that raises DRQ
module _ (b : ControllerModel) (m : ReadMode) (name : SectorName) (x : Writing) (s : Start b m name x) (order : InOrder b) (waiting : List Call) (on : BusyThroughout b waiting) where
  abbrev e : ControllerModel
  e = runs b waiting

  abbrev offered : ControllerModel
  offered = called e call.Turn

  under : Under b s.at m x s.begins waiting e
  under = under_way b s.at m x s.begins waiting 0 b (first_tries b s.at m x s.begins order s.phase) on

  order_offered : InOrder offered
  order_offered = order_call e call.Turn (order_runs b waiting order)

  module _ (asks : drq offered ≡ true) (cs : List Call) (throughout : DrqThroughout offered cs) (clean : error (runs offered cs) ≡ false) where
    by_end : Ends b s.at m x s.begins offered → Gives x offered cs
    by_end (read k few standing settled front failure phase sdh) =
        drawn_is m x offered s.begins.plain order_offered phase (ap (λ z. take (bytes_of (size_at z)) offered.state.buffer.bytes) sdh ∙ front)
        (s.begins.written.1 ∙ ap (λ z. bytes_of (size_at z)) (sym sdh)) cs throughout
    by_end (failed why failure offering asked) =
        let d = drawing cs offered m 0 (offering asks) throughout in
        absurd (both_ways (error (runs offered cs)) clean (ap is_some d.failure ∙ failure))

    same : Under b s.at m x s.begins waiting e → Gives x offered cs
    same (way k t) = by_end (ends b s.at m x s.begins k e t (request_is_not_busy offered.state.phase asks))
    same (reset not_none test) = absurd (both_ways (drq offered) (ap requests (test_ends e test)) asks)

pub same_bytes : (new : ControllerModel) → IsNew new → (history : List Call) → SameBytes new history
same_bytes new is_new history before c waiting cs rest m name x split comes r on raises throughout clean =
    let b = runs new (before ++ (c ∷ [])) in
    let n = notes_of new (before ++ (c ∷ [])) in
    let held = held_at new is_new (before ++ (c ∷ [])) in
    let s = starts n b m name x held (runs new before) c (at_more new before c) comes r in
    let asks = (and_parts (drq (called (runs b waiting) call.Turn)) _ raises).0 in
    let gives = same b m name x s held.order waiting on asks cs throughout clean (under b m name x s held.order waiting on) in
    (gives.inside, gives.answers, gives.more)

-- ---- clean exactly when it can be
module _ (b : ControllerModel) (m : ReadMode) (name : SectorName) (x : Writing) (s : Start b m name x) (order : InOrder b) (waiting : List Call) (on : BusyThroughout b waiting)
    (single : m.multiple ≡ false) (no_failure : b.state.failure ≡ None) where
  abbrev here : SectorName
  here = sector_named s.at b.state.registers

  abbrev after : ControllerModel
  after = called (runs b waiting) call.Turn

  module _ (asks : drq after ≡ true) where
    -- what the turn that raises DRQ shows
    record Shows (at_sector : SectorName) : Type 0 where
      only : error after ≡ false → StandsUnmarked b at_sector × Readable x.mode (used_bits x.mode at_sector) (outlook_at b at_sector)
      whenever : StandsUnmarked b at_sector → Readable x.mode (used_bits x.mode at_sector) (outlook_at b at_sector) → error after ≡ false

    shows_by : Ends b s.at m x s.begins after → Shows here
    shows_by (read k few standing settled front failure phase sdh) =
        let off_error : error after ≡ false = ap is_some (failure ∙ no_failure) in
        record {
          only = λ _. (standing, settles_readable x.mode here.size x.bytes s.begins.written.1 (outlook_at b here) s.begins.mild k few settled);
          whenever = λ _ _. off_error;
        }
    shows_by (failed why failure offering asked) =
        record {
          only = λ clean. absurd (both_ways (error after) clean failure);
          whenever = λ standing readable.
              let k = readable_settles x.mode here.size x.bytes s.begins.written.1 (outlook_at b here) readable in
              absurd (why standing k.0 k.1.0 k.1.1);
        }

    shows : Under b s.at m x s.begins waiting (runs b waiting) → Shows name
    shows (way k t) = subst Shows s.named (shows_by (ends b s.at m x s.begins k (runs b waiting) t (request_is_not_busy after.state.phase asks)))
    shows (reset not_none test) = absurd (both_ways (drq after) (ap requests (test_ends (runs b waiting) test)) asks)

  -- a turn that turns BUSY off raises DRQ
  asks_by : Ends b s.at m x s.begins after → drq after ≡ true
  asks_by (read k few standing settled front failure phase sdh) = ap requests phase
  asks_by (failed why failure offering asked) = asked single

  asks_then : busy after ≡ false → NoReset waiting → Under b s.at m x s.begins waiting (runs b waiting) → drq after ≡ true
  asks_then off none (way k t) = asks_by (ends b s.at m x s.begins k (runs b waiting) t off)
  asks_then off none (reset not_none test) = absurd (not_none none)

raised : (e : ControllerModel) → busy e ≡ true → drq (called e call.Turn) ≡ true → drq_comes_on e call.Turn ≡ true
raised e on asks = and_from _ _ asks (idle e.state.phase on)
  where
    idle : (p : Phase) → is_busy p ≡ true → (not (requests p) || false) ≡ true
    idle p on = grind arith

pub clean_exactly_when : (new : ControllerModel) → IsNew new → (history : List Call) → CleanExactlyWhen new history
clean_exactly_when new is_new history before byte after m name x split accepted on r single =
    let h = before ++ (call.Write 7 byte ∷ []) in
    let b = runs new h in
    let held = held_at new is_new h in
    let is = at_more new before (call.Write 7 byte) in
    let on_then : busy (called (runs new before) (call.Write 7 byte)) ≡ true = ap busy (sym is) ∙ on in
    let s = starts (notes_of new h) b m name x held (runs new before) (call.Write 7 byte) is (accepted_begins (runs new before) byte accepted on_then) r in
    let no_failure : b.state.failure ≡ None = ap (λ (z : ControllerModel). z.state.failure) is ∙ (accepted_clean (runs new before) byte accepted on_then).0 in (
      (λ waiting rest parts throughout raises.
          let asks = (and_parts (drq (called (runs b waiting) call.Turn)) _ raises).0 in
          let shown = shows b m name x s held.order waiting throughout single no_failure asks (under b m name x s held.order waiting throughout) in
          (shown.only, shown.whenever)),
      (λ enough.
          let z = brought_off after 1032 b held.order on (left_at new is_new h) enough in
          let asks = λ (none : NoReset z.waiting). asks_then b m name x s held.order z.waiting z.on single no_failure z.off none (under b m name x s held.order z.waiting z.on) in
          (z.waiting, (z.rest, (z.split, z.few, z.on, λ none. raised (runs b z.waiting) (busy_last b z.waiting z.on) (asks none))))),
    )

-- ---- the theorem
pub round_trip : ScriptIsSheet
unfolding ScriptIsSheet
round_trip new is_new history =
    record {
      same_bytes = same_bytes new is_new history;
      every_request = every_request new is_new history;
      clean_exactly_when = clean_exactly_when new is_new history;
      nothing_else_moves = nothing_else_moves new is_new history;
      busy_ends = busy_ends new is_new history;
    }

-- so calls that were made tell all that a run has to
pub tells : (before : ControllerModel) (calls : List Call) (given : List Answer) (after : ControllerModel) → Ran before calls given after → Tells before calls given after
unfolding ScriptIsSheet
tells before calls given now ran = record { ran = ran; laws = λ new is_new history leads. round_trip new is_new (history ++ calls) }
