-- Along calls a plain read comes to its sector's bytes, or fails where they cannot be had: the laws of same bytes and of clean reads.
use Rattle.std.proofs.Common.{◌≡◌, ℕ, ◌<◌, Bool, true, false, List, [], ◌∷◌, take, is_some, sym, refl, ap, ◌∙◌, subst, zero-add, arith}
use Rattle.sector.specs.Sizes.{bytes_of}
use Rattle.task_file.specs.declared.sdh.Selection.{Selection}
use Rattle.task_file.specs.declared.command.ReadMode.{ReadMode}
use Rattle.task_file.specs.declared.state.Job.TheVariants.{Test, Read}
use Rattle.task_file.specs.declared.state.Phase.TheVariants.{Rest, Busy, Offering}
use Rattle.task_file.specs.Sdh.{size_at}
use Rattle.task_file.specs.State.{first_read, is_busy, requests}
use Rattle.controller.specs.Turns.{worked}
use Rattle.controller.specs.Model.{ControllerModel}
use Rattle.controller.specs.declared.call.Call.{Call}
use Rattle.controller.specs.declared.call.Call.TheVariants as call
use Rattle.controller.specs.Runs.{called, runs}
use Rattle.std.proofs.lemmas.Bool.{both_ways}
use Rattle.histories.specs.Working.{InOrder}
use Rattle.histories.proofs.Orders.{order_call}
use Rattle.round_trip.specs.Events.{busy, sector_named}
use Rattle.round_trip.specs.Ledger.{Writing}
use Rattle.round_trip.specs.Laws.{outlook_at, StandsUnmarked, BusyThroughout, NoReset}
use Rattle.round_trip.proofs.Waiting.{read_waits, write_waits, busy_first}
use Rattle.round_trip.proofs.Reading.{Begins, Tries, Next, waits, offers, fails, next, settles, unsettled}

-- a turn ends Test
pub test_ends : (e : ControllerModel) → e.state.phase ≡ Busy Test → (called e call.Turn).state.phase ≡ Rest
unfolding worked
test_ends e test = grind arith

-- so while BUSY stays on there was none
test_stays : (cs : List Call) (e : ControllerModel) → e.state.phase ≡ Busy Test → BusyThroughout e cs → (runs e cs).state.phase ≡ Busy Test
unfolding runs
test_stays [] e test on = test
test_stays (call.Read n ∷ cs) e test on = let r = read_waits e n on.0 in test_stays cs _ (ap (λ (z : ControllerModel). z.state.phase) r.1 ∙ test) on.1
test_stays (call.Write n byte ∷ cs) e test on = test_stays cs _ (ap (λ (z : ControllerModel). z.state.phase) (write_waits e n byte on.0) ∙ test) on.1
test_stays (call.Turn ∷ cs) e test on = absurd (both_ways (busy (called e call.Turn)) (ap is_busy (test_ends e test)) (busy_first (called e call.Turn) cs on.1))
test_stays (call.Reset ∷ cs) e test on = test_stays cs _ refl on.1

module _ (b : ControllerModel) (at : Selection) (m : ReadMode) (x : Writing) (begins : Begins b at m x) where
  abbrev T : ℕ → ControllerModel → Type 0
  T = Tries b at m x begins

  -- where it begins, no attempt was made
  pub first_tries : InOrder b → b.state.phase ≡ Busy (Read (first_read m)) → T 0 b
  first_tries order phase =
      record { few = omega arith; order = order; phase = phase; registers = refl; failure = refl; tracks = refl; outlook = λ i. ap (outlook_at b (sector_named at b.state.registers)) (sym (zero-add i)); so_far = λ i less. absurd (omega arith) }

  -- the interrupt line is no part of it
  same_tries : (k : ℕ) (e : ControllerModel) (i : Bool) → T k e → InOrder (record e { state = record e.state { intrq = i } }) → T k (record e { state = record e.state { intrq = i } })
  same_tries k e i t order =
      record {
        few = t.few;
        order = order;
        phase = t.phase;
        registers = t.registers;
        failure = t.failure;
        tracks = t.tracks;
        outlook = t.outlook;
        so_far = t.so_far;
      }

  -- while BUSY stays on it is under way, unless a reset came
  pub data Under (cs : List Call) (e : ControllerModel) : Type 0 where
    way : (k : ℕ) → T k e → Under cs e
    reset : (NoReset cs → ⊥) → e.state.phase ≡ Busy Test → Under cs e

  later : (c : Call) (cs : List Call) (e : ControllerModel) → (NoReset (c ∷ cs) → NoReset cs) → Under cs e → Under (c ∷ cs) e
  later c cs e fewer (way k t) = way k t
  later c cs e fewer (reset not_none test) = reset (λ none. not_none (fewer none)) test

  still_waits : (f : ControllerModel) → busy f ≡ true → Next b at m x begins f → (j : ℕ) × T j f
  still_waits f on (waits j u) = (j, u)
  still_waits f on (offers j few standing settled front failure phase sdh) = absurd (both_ways (busy f) (ap is_busy phase) on)
  still_waits f on (fails why failure off offering asks) = absurd (both_ways (busy f) off on)

  pub under_way : (cs : List Call) (k : ℕ) (e : ControllerModel) → T k e → BusyThroughout e cs → Under cs (runs e cs)
  unfolding runs
  under_way [] k e t on = way k t
  under_way (call.Read n ∷ cs) k e t on =
      let r = read_waits e n on.0 in
      let t2 = same_tries k e r.0 t (subst InOrder r.1 (order_call e (call.Read n) t.order)) in
      later (call.Read n) cs _ (λ z. z) (under_way cs k _ (subst (T k) (sym r.1) t2) on.1)
  under_way (call.Write n byte ∷ cs) k e t on =
      later (call.Write n byte) cs _ (λ z. z) (under_way cs k _ (subst (T k) (sym (write_waits e n byte on.0)) t) on.1)
  under_way (call.Turn ∷ cs) k e t on =
      let f = called e call.Turn in
      let on_still : busy f ≡ true = busy_first f cs on.1 in
      let n = still_waits f on_still (next b at m x begins k e t) in
      later call.Turn cs _ (λ z. z) (under_way cs n.0 f n.1 on.1)
  under_way (call.Reset ∷ cs) k e t on = reset (λ none. none) (test_stays cs _ refl on.1)

  -- the turn that turns BUSY off ends it
  pub data Ends (e : ControllerModel) : Type 0 where
    read : (k : ℕ) → k < 9 → StandsUnmarked b (sector_named at b.state.registers) → settles b at m x begins k → take (bytes_of (size_at b.state.registers.sdh)) e.state.buffer.bytes ≡ x.bytes
        → e.state.failure ≡ b.state.failure → e.state.phase ≡ Offering m 0 → e.state.registers.sdh ≡ b.state.registers.sdh → Ends e
    failed : (StandsUnmarked b (sector_named at b.state.registers) → unsettled b at m x begins 9) → is_some e.state.failure ≡ true
        → (requests e.state.phase ≡ true → e.state.phase ≡ Offering m 0) → (m.multiple ≡ false → requests e.state.phase ≡ true) → Ends e

  pub ends : (k : ℕ) (e : ControllerModel) → T k e → busy (called e call.Turn) ≡ false → Ends (called e call.Turn)
  ends k e t off = by_next (next b at m x begins k e t)
    where
      by_next : Next b at m x begins (called e call.Turn) → Ends (called e call.Turn)
      by_next (waits j u) = absurd (both_ways (busy (called e call.Turn)) off (ap is_busy u.phase))
      by_next (offers j few standing settled front failure phase sdh) = read j few standing settled front failure phase sdh
      by_next (fails why failure off offering asks) = failed why failure offering asks
