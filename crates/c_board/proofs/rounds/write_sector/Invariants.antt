-- So far as many bytes have been given as the index says.
use Rattle.std.proofs.Common.{◌∷◌}
use Rattle.controller.specs.declared.call.Call.TheVariants.{Write}
use Rattle.controller.specs.Controller.{model_of}
use Rattle.c_board.specs.Rounds.{Hears, in_turn, byte_given}
use Rattle.c_board.proofs.rounds.write_sector.Given as goal

abbrev pub invariant-loop-at : goal.invariant-loop-at
invariant-loop-at g l =
    Hears (model_of g.D.Drive.meaning l.fn.controller) l.start
    (Write 3 l.number ∷ Write 7 0x30 ∷ in_turn (byte_given l.number) l.at)
    (model_of g.D.Drive.meaning l.controller) l.sum
