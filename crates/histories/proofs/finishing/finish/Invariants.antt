-- So many turns have been made, each while BUSY was on, and a controller that was in order has so many fewer left.
use Rattle.std.proofs.Common.{◌≡◌, ℕ, ◌<◌, true}
use Rattle.task_file.specs.State.{is_busy}
use Rattle.controller.specs.Controller.{model_of}
use Rattle.histories.specs.Working.{turns, InOrder}
use Rattle.histories.proofs.Orders.{Still}
use Rattle.histories.proofs.finishing.finish.Given as goal

abbrev pub invariant-loop-made : goal.invariant-loop-made
invariant-loop-made g l =
    let b = model_of g.D.Drive.meaning l.initial.controller in
    let e = model_of g.D.Drive.meaning l.controller in
    record {
      made : e ≡ turns l.made b;
      busy : (k : ℕ) → k < l.made → is_busy (turns k b).state.phase ≡ true;
      still : InOrder b → Still e l.made l.most;
    }
