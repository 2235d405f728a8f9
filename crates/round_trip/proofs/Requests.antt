-- Each DRQ of a read comes on a turn, and BUSY is on since it came on under that read.
use Rattle.std.proofs.Common.{◌≡◌, ℕ, Bool, true, false, cond, not, ◌&&◌, ◌||◌, eqb, ◌⊎◌, List, [], ◌∷◌, ◌++◌, Some, Option, sym, refl, subst, inl, inr, append_assoc, arith}
use Rattle.std.proofs.lemmas.List.{append-nil}
use Rattle.std.proofs.lemmas.Bool.{and_from, not_from_false, cases_Bool}
use Rattle.std.proofs.lemmas.Bool.Decides.{nat_tests}
use Rattle.task_file.specs.declared.command.Command.{Command}
use Rattle.task_file.specs.declared.command.Command.TheVariants.{Read}
use Rattle.task_file.specs.declared.command.ReadMode.{ReadMode}
use Rattle.task_file.specs.declared.state.State.{State}
use Rattle.task_file.specs.declared.view.DriveView.{DriveView}
use Rattle.task_file.specs.Commands.{command_of}
use Rattle.task_file.specs.State.{is_busy, requests}
use Rattle.task_file.specs.Beginning.{begun}
use Rattle.task_file.specs.Moving.{drawn_at}
use Rattle.controller.specs.Access.{state_after_read}
use Rattle.controller.specs.Model.{ControllerModel, seen}
use Rattle.controller.specs.declared.call.Call.{Call}
use Rattle.controller.specs.declared.call.Call.TheVariants as call
use Rattle.controller.specs.Runs.{called, runs, IsNew}
use Rattle.controller.proofs.Runs.{runs_joined}
use Rattle.round_trip.specs.Events.{busy, drq_comes_on}
use Rattle.round_trip.specs.Ledger.{Notes, no_notes, forced_by, noted, notes_from, notes_of}
use Rattle.round_trip.specs.Laws.{BusyThroughout, BusySince, EveryRequest}
use Rattle.round_trip.proofs.Accessed as access
use Rattle.round_trip.proofs.Waiting.{busy_first}

-- ---- the call that raises DRQ
-- a read raises no DRQ
read_quiet : (s : State) (n : ℕ) → (requests (state_after_read s n).phase && (not (requests s.phase) || false)) ≡ true → ⊥
unfolding state_after_read drawn_at
read_quiet s n on = grind (arith, nat_tests)

-- nor does a write under a read: a read that is accepted is busy, or aborted
write_quiet : (s : State) (v : Option DriveView) (n byte : ℕ) (o : Option Command) (m : ReadMode) (done : Bool) (t : State) → access.Accessed s v n byte done t
    → (requests t.phase && (not (requests s.phase) || (eqb n 7 && done))) ≡ true → cond (eqb n 7 && done) (command_of byte) o ≡ Some (Read m) → ⊥
unfolding begun
write_quiet s v n byte o m done t a on forced = grind arith

-- so it is a turn, of a busy controller under that read
raised : (b : ControllerModel) (n : Notes) (c : Call) (m : ReadMode) → drq_comes_on b c ≡ true → (noted b c n).in_force ≡ Some (Read m)
    → (c ≡ call.Turn) × (busy b ≡ true) × (n.in_force ≡ Some (Read m))
raised b n (call.Read number) m on forced = absurd (read_quiet b.state number on)
raised b n (call.Write number byte) m on forced = absurd (write_quiet b.state (seen b) number byte n.in_force m _ _ (access.accessed b.state (seen b) byte number) on forced)
raised b n call.Turn m on forced = (refl, grind arith, forced)
raised b n call.Reset m on forced = cc

-- ---- since BUSY came on
-- while BUSY is on no command is accepted, and so the read was in force before
write_forces : (s : State) (v : Option DriveView) (n byte : ℕ) (o : Option Command) (m : ReadMode) (done : Bool) (t : State) → access.Accessed s v n byte done t
    → is_busy s.phase ≡ true → cond (eqb n 7 && done) (command_of byte) o ≡ Some (Read m) → o ≡ Some (Read m)
write_forces s v n byte o m done t a on forced = grind arith

busy_forces : (b : ControllerModel) (c : Call) (o : Option Command) (m : ReadMode) → busy b ≡ true → forced_by b c o ≡ Some (Read m) → o ≡ Some (Read m)
busy_forces b (call.Read number) o m on forced = forced
busy_forces b (call.Write number byte) o m on forced = write_forces b.state (seen b) number byte o m _ _ (access.accessed b.state (seen b) byte number) on forced
busy_forces b call.Turn o m on forced = forced
busy_forces b call.Reset o m on forced = cc

-- the notes of one list after another
pub notes_joined : (b : ControllerModel) (n : Notes) (cs ds : List Call) → notes_from b n (cs ++ ds) ≡ notes_from (runs b cs) (notes_from b n cs) ds
unfolding runs notes_from
notes_joined b n [] ds = refl
notes_joined b n (c ∷ cs) ds = notes_joined (called b c) (noted b c n) cs ds

module _ (new : ControllerModel) (m : ReadMode) where
  abbrev pub InForce : List Call → Type 0
  InForce history = (notes_of new history).in_force ≡ Some (Read m)

  -- the read is in force after a history, and BUSY is on all along the calls behind it
  abbrev pub BusyBehind : List Call → List Call → Type 0
  BusyBehind history cs = BusyThroughout (runs new history) cs × InForce history

  -- one call earlier BUSY was on too, or that call turned it on
  one_earlier : (history : List Call) (c : Call) (cs : List Call) → BusyBehind (history ++ (c ∷ [])) cs → BusyBehind history (c ∷ cs) ⊎ BusySince new (history ++ (c ∷ cs)) m
  unfolding runs notes_from
  one_earlier history c cs behind =
      let b = runs new history in
      let on : BusyThroughout (called b c) cs = subst (λ e. BusyThroughout e cs) (runs_joined new history (c ∷ [])) behind.0 in
      let forced : forced_by b c (notes_of new history).in_force ≡ Some (Read m) = subst (λ n. n.in_force ≡ Some (Read m)) (notes_joined new no_notes history (c ∷ [])) behind.1 in
      elim (cases_Bool (busy b)) [
        | inl busy_before ↦ inl ((busy_before, on), busy_forces b c (notes_of new history).in_force m busy_before forced)
        | inr off ↦ inr (record {
          before = history;
          first = c;
          waiting = cs;
          split = refl;
          comes_on = and_from _ _ (busy_first (called b c) cs on) (not_from_false _ off);
          in_force = behind.1;
          on = behind.0;
        })
      ]

  -- back from the last call to the one that turned BUSY on, or to the first
  back : (cs history : List Call) → busy (runs new (history ++ cs)) ≡ true → InForce (history ++ cs) → BusyBehind history cs ⊎ BusySince new (history ++ cs) m
  back [] history on forced =
      let none = append-nil history in
      inl (subst (λ h. busy (runs new h) ≡ true) none on, subst InForce none forced)
  back (c ∷ cs) history on forced =
      let joined = append_assoc history (c ∷ []) cs in
      elim (back cs (history ++ (c ∷ [])) (subst (λ h. busy (runs new h) ≡ true) (sym joined) on) (subst InForce (sym joined) forced)) [
        | inl behind ↦ one_earlier history c cs behind
        | inr found ↦ inr (subst (λ h. BusySince new h m) joined found)
      ]

  -- at the making no command is in force
  busy_since : (history : List Call) → busy (runs new history) ≡ true → InForce history → BusySince new history m
  unfolding notes_from
  busy_since history on forced =
      elim (back history [] on forced) [
        | inl behind ↦ cc
        | inr found ↦ found
      ]

-- ---- each request
pub every_request : (new : ControllerModel) → IsNew new → (history : List Call) → EveryRequest new history
unfolding notes_from
every_request new is_new history before c rest m split on forced =
    let now = raised (runs new before) (notes_of new before) c m on (subst (λ n. n.in_force ≡ Some (Read m)) (notes_joined new no_notes before (c ∷ [])) forced) in
    (now.0, busy_since new m before now.1 now.2)
