-- The calls that are left, from here on, answer and leave what all of them do from the start.
use Rattle.std.proofs.Common.{◌≡◌, ◌++◌, drop, map, vec_items}
use Rattle.controller.specs.Controller.{model_of}
use Rattle.controller.specs.Runs.{runs}
use Rattle.c_board.specs.Runs.{call_of, all_shown}
use Rattle.c_board.proofs.answers.all_answers.Given as goal

abbrev pub invariant-loop-call : goal.invariant-loop-call
invariant-loop-call g l =
    let left = map call_of (drop l.call-index l.calls) in
    let before = model_of g.D.Drive.meaning l.initial.controller in
    let now = model_of g.D.Drive.meaning l.controller in
    record {
      after : runs before (map call_of l.calls) ≡ runs now left;
      all : all_shown before (map call_of l.calls) ≡ vec_items l.answers ++ all_shown now left;
    }
