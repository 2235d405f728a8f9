-- What is under way can be done, and so no turn is turned away by its drive.
use Rattle.std.proofs.Common.{◌≡◌, ◌≢◌, ℕ, zero, suc, ◌+◌, ◌*◌, ◌<◌, ◌≤◌, true, false, List, length, Some, None, Err, Option, refl, ap, ◌∙◌, add-one, length-append, arith}
use Rattle.std.proofs.lemmas.Bool.Decides.{nat_tests}
use Rattle.std.specs.Option.{option_map}
use Rattle.sector.specs.declared.size.SizeCode.{SizeCode}
use Rattle.sector.specs.Sizes.{bytes_of}
use Rattle.drive.specs.declared.answers.ReadError.TheVariants as read_error
use Rattle.drive.specs.declared.answers.WriteError.TheVariants as write_error
use Rattle.drive.specs.Model.{DriveModel}
use Rattle.drive.specs.Calls.{read_answer, write_answer, format_answer}
use Rattle.task_file.specs.declared.sdh.Selection.{Selection}
use Rattle.task_file.specs.declared.registers.Registers.{Registers}
use Rattle.task_file.specs.declared.command.Command.{Command}
use Rattle.task_file.specs.declared.command.Command.TheVariants as command
use Rattle.task_file.specs.declared.state.Job.{Job}
use Rattle.task_file.specs.declared.state.Job.TheVariants.{Test, Restore, Seek, Read, Write, Format}
use Rattle.task_file.specs.declared.state.Phase.{Phase}
use Rattle.task_file.specs.declared.state.Phase.TheVariants.{Busy}
use Rattle.task_file.specs.declared.state.State.{State}
use Rattle.task_file.specs.declared.view.DriveView.{DriveView}
use Rattle.task_file.specs.Registers.{sector_count}
use Rattle.task_file.specs.Sdh.{size_at, selected}
use Rattle.task_file.specs.Commands.{writes}
use Rattle.task_file.specs.Pairs.{ids_of}
use Rattle.task_file.specs.Aborting.{aborts}
use Rattle.controller.specs.Model.{ControllerModel, view_of, seen_at}
use Rattle.controller.specs.Runs.{runs}
use Rattle.histories.specs.Working.{under_way, Able, DoneAsAsked, NothingTurnedAway, NeverTurnedAway}
use Rattle.histories.proofs.Orders.{order_new, order_runs}

-- a command that is not aborted has a ready drive, and one that writes finds it unprotected
ready : (c : Command) (r : Registers) (v : DriveView) → (c ≡ command.Test → ⊥) → aborts c r (Some v) ≡ false → v.ready ≡ true
unfolding aborts
ready c r v no_test able = grind arith

unprotected : (c : Command) (r : Registers) (v : DriveView) → writes c ≡ true → aborts c r (Some v) ≡ false → v.protected ≡ false
unfolding aborts
unprotected c r v writing able = grind arith

-- a format that is not aborted fits
formats_fit : (r : Registers) (v : DriveView) → aborts command.Format r (Some v) ≡ false
    → (v.at.head < v.geometry.heads) × (sector_count r ≤ 64) × (sector_count r * bytes_of (size_at r.sdh) ≤ v.geometry.capacity)
unfolding aborts
formats_fit r v able = (grind (arith, nat_tests), grind (arith, nat_tests), grind (arith, nat_tests))

-- what it answers hangs on these
read_ready : (d : DriveModel) (head number : ℕ) (size : SizeCode) → d.ready ≡ true → read_answer d head number size ≢ Err read_error.NotReady
unfolding read_answer
read_ready d head number size is e = grind arith

write_open : (d : DriveModel) (head number : ℕ) (size : SizeCode) → d.ready ≡ true → d.protected ≡ false
    → (write_answer d head number size ≢ Err write_error.NotReady) × (write_answer d head number size ≢ Err write_error.Protected)
unfolding write_answer
write_open d head number size is open_to = (λ e. grind arith, λ e. grind arith)

ids_long : (bytes : List ℕ) (n : ℕ) → length (ids_of bytes n) ≡ n
ids_long bytes zero = refl
ids_long bytes (suc n) = length-append (ids_of bytes n) _ ∙ ap (λ k. k + 1) (ids_long bytes n) ∙ add-one n

done_as_asked : (j : Job) (s : State) (at : Selection) (d : DriveModel) → Able (under_way (Busy j)) s.registers (Some (view_of at d)) → DoneAsAsked j s at d
unfolding format_answer
done_as_asked Test s at d able = tt
done_as_asked (Restore steps) s at d able = tt
done_as_asked Seek s at d able = tt
done_as_asked (Read j) s at d able = read_ready d at.head s.registers.number (size_at s.registers.sdh) (ready (command.Read j.mode) s.registers (view_of at d) (λ e. cc) able)
done_as_asked (Write j) s at d able =
    write_open d at.head s.registers.number (size_at s.registers.sdh) (ready (command.Write j.mode) s.registers (view_of at d) (λ e. cc) able)
    (unprotected (command.Write j.mode) s.registers (view_of at d) refl able)
done_as_asked Format s at d able =
    let fit = formats_fit s.registers (view_of at d) able in
    grind (arith, nat_tests, ids_long, ready command.Format s.registers (view_of at d) (λ e. cc) able, unprotected command.Format s.registers (view_of at d) refl able, fit.0, fit.1, fit.2)

turned_away_by : (p : Phase) (sel : Option Selection) (b : ControllerModel) → Able (under_way p) b.state.registers (option_map (seen_at b) sel) → NothingTurnedAway p sel b
unfolding aborts
turned_away_by (Busy j) (Some at) b able = done_as_asked j b.state at (b.drives at.bay) able
turned_away_by (Busy Test) None b able = refl
turned_away_by (Busy j) None b able = cc
turned_away_by p sel b able = tt

pub never_turned_away : NeverTurnedAway
unfolding NeverTurnedAway
never_turned_away b new history =
    let e = runs b history in
    turned_away_by e.state.phase (selected e.state.registers.sdh) e (order_runs b history (order_new b new)).able
