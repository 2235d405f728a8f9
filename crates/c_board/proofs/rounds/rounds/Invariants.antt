-- So far as many rounds have been made as the index says.
use Rattle.controller.specs.Controller.{model_of}
use Rattle.c_board.specs.Rounds.{Hears, in_turn, round_of}
use Rattle.c_board.proofs.rounds.rounds.Given as goal

abbrev pub invariant-loop-at : goal.invariant-loop-at
invariant-loop-at g l =
    Hears (model_of g.D.Drive.meaning l.fn.controller) 0 (in_turn (round_of l.asked) l.at) (model_of g.D.Drive.meaning l.controller) l.sum
