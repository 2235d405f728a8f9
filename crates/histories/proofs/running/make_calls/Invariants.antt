-- So far the calls up to the index have been made, and there is room for all answers.
use Rattle.std.proofs.Common.{◌≡◌, ◌≤◌, length, take, vec_items, vec_len, vec_capacity}
use Rattle.controller.specs.Controller.{model_of}
use Rattle.controller.specs.Runs.{runs, answers}
use Rattle.histories.proofs.running.make_calls.Given as goal

abbrev pub invariant-loop-call : goal.invariant-loop-call
invariant-loop-call g l =
    let b = model_of g.D.Drive.meaning l.initial.controller in
    record {
      after : model_of g.D.Drive.meaning l.controller ≡ runs b (take l.call-index l.calls);
      all : vec_items l.answers ≡ answers b (take l.call-index l.calls);
      as_many : vec_len l.answers ≡ l.call-index;
      room : length l.calls ≤ vec_capacity l.answers;
    }
