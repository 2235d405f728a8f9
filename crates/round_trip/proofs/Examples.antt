-- The premises that the example meets, computed from the definitions, and what the laws then say of it.
use Rattle.std.proofs.Common.{◌≡◌, ℕ, ◌+◌, ◌<◌, Bool, true, not, ◌&&◌, cond, List, [], ◌++◌, ◌∷◌, length, map, replicate, refl, inl, inr, arith, eqb}
use Rattle.std.proofs.lemmas.Bool.{cases_Bool, cond_both, and_parts, not-true}
use Rattle.sector.specs.Bits.{marked, OneBurst}
use Rattle.check_code.specs.declared.mode.CheckMode.TheVariants.{Ecc}
use Rattle.burst.specs.Search.{first_burst}
use Rattle.burst.proofs.Patterns.{marked_burst}
use Rattle.drive.specs.Model.{Sector, Showing}
use Rattle.drive.specs.Bounds.{ADrive}
use Rattle.drive.specs.Calls.{stepped_in, stepped_out, read_answer, handed_over, after_read, write_answer, after_write, format_answer, after_format}
use Rattle.task_file.specs.declared.bay.Bay.TheVariants.{Winchester1}
use Rattle.task_file.specs.Bays.{same_bay}
use Rattle.task_file.specs.Commands.{command_of}
use Rattle.task_file.specs.Aborting.{aborts}
use Rattle.task_file.specs.Beginning.{begun}
use Rattle.task_file.specs.Moving.{drawn_at, put_at}
use Rattle.task_file.specs.Attempts.{read_judged}
use Rattle.controller.specs.Access.{read_answer_of, state_after_read, write_answer_of, state_after_write}
use Rattle.controller.specs.Model.{ControllerModel}
use Rattle.controller.specs.Turns.{worked}
use Rattle.controller.specs.declared.call.Call.{Call}
use Rattle.controller.specs.declared.call.Call.TheVariants as call
use Rattle.controller.specs.Runs.{byte_read, called, runs, answers}
use Rattle.histories.specs.Examples.{example_drive, undamaged}
use Rattle.round_trip.specs.Events.{drq, accepts, event_of}
use Rattle.round_trip.specs.Ledger.{notes_from}
use Rattle.round_trip.specs.Laws.{Mild, used_bits, DrqThroughout}
use Rattle.round_trip.specs.Examples.{new, shows, sheet, place, writing, before, reading, mode, waiting, drawing, offered, PremisesMet, SheetReadBack}
use Rattle.round_trip.proofs.Laws.{same_bytes, clean_exactly_when}

-- ---- the drives
few_here : (c h k : ℕ) → k < length (cond {A = List Sector} (eqb c 0 && eqb h 0) [] []) → ⊥
few_here c h k l = grind arith

-- an example drive without sectors is a drive
is_drive : (capacity cylinder : ℕ) (shows : ℕ → Showing) → cylinder < 4 → ADrive (example_drive capacity cylinder [] shows)
is_drive capacity cylinder shows inside =
    record {
      some_cylinder = omega arith;
      few_cylinders = omega arith;
      some_head = omega arith;
      few_heads = omega arith;
      inside = inside;
      few_sectors = λ c h. grind arith;
      whole_sectors = λ c h k d l. absurd (few_here c h k l);
      past_cylinders = λ c h l. grind arith;
      past_heads = λ c h l. grind arith;
    }

-- ---- what attempts show
burst : OneBurst (marked 1 0b1_0011) (used_bits Ecc place)
burst = marked_burst (used_bits Ecc place) 1 0b1_0011 (omega arith) refl (omega arith)

mild : (k : ℕ) → Mild (used_bits Ecc place) (shows k)
mild k =
    elim (cases_Bool (eqb k 1)) [
      | inl hidden ↦ rw hidden tt
      | inr shown ↦ rw shown (inr burst)
    ]

-- ---- DRQ along calls, as a test
asks : ControllerModel → List Call → Bool
asks b [] = drq b
asks b (c ∷ cs) = drq b && (not (accepts b c) && asks (called b c) cs)

throughout : (cs : List Call) (b : ControllerModel) → asks b cs ≡ true → DrqThroughout b cs
unfolding asks
throughout [] b on = on
throughout (c ∷ cs) b on =
    let now = and_parts (drq b) _ on in
    let later = and_parts (not (accepts b c)) _ now.1 in
    (now.0, not-true (accepts b c) later.0, throughout cs (called b c) later.1)

-- ---- the example
computed : PremisesMet × (answers offered (replicate 128 (call.Read 0)) ≡ map byte_read sheet)
unfolding runs answers command_of aborts begun drawn_at put_at read_judged read_answer_of state_after_read write_answer_of state_after_write worked stepped_in stepped_out read_answer handed_over after_read write_answer after_write format_answer after_format first_burst event_of notes_from asks
computed = (
  record {
    is_new =
        record {
          is_fresh = refl;
          a_drive = λ bay. cond_both (same_bay bay Winchester1) _ _ ADrive (λ _. is_drive 8192 0 shows (omega arith)) (λ _. is_drive 0 0 undamaged (omega arith));
        };
    busy_on = refl;
    plain_read =
        record {
          in_force = refl;
          plain = refl;
          named = refl;
          last_writing = refl;
          written_plain = refl;
          same_mode = refl;
          mild = λ k few. mild (k + 1);
        };
    waits = (refl, (refl, refl));
    raises = refl;
    asks = throughout drawing offered refl;
    no_error = refl;
    in_force = refl;
    accepted = refl;
    not_aborted = refl;
    single = refl;
    stands = (0, (refl, refl));
    readable = inr (1, (omega arith, (burst, λ i l. refl)));
  },
  refl,
)

pub premises_met : PremisesMet
premises_met = computed.0

-- the laws at these premises
by_laws : PremisesMet → SheetReadBack
by_laws p =
    let drawn_too = before ++ (reading ∷ waiting ++ (call.Turn ∷ drawing ++ (call.Read 0 ∷ []))) in
    let gives = same_bytes new p.is_new drawn_too before reading waiting drawing [] mode place writing refl p.busy_on p.plain_read p.waits p.raises p.asks p.no_error in
    let raised = clean_exactly_when new p.is_new (before ++ (reading ∷ waiting ++ (call.Turn ∷ []))) before 0x20 (waiting ++ (call.Turn ∷ [])) mode place writing refl p.accepted p.not_aborted p.plain_read p.single in
    record {
      last_byte = gives.1;
      clean = (raised.0 waiting [] refl p.waits p.raises).1 p.stands p.readable;
      script = computed.1;
    }

pub sheet_read_back : SheetReadBack
sheet_read_back = by_laws premises_met
