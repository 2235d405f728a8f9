-- So far as many turns have been made, or bytes drawn, as the index says.
use Rattle.std.proofs.Common.{[], ◌∷◌, ◌++◌}
use Rattle.controller.specs.declared.call.Call.TheVariants.{Read, Write, Turn}
use Rattle.controller.specs.Controller.{model_of}
use Rattle.c_board.specs.Rounds.{Hears, in_turn}
use Rattle.c_board.proofs.rounds.read_sector.Given as goal

abbrev pub invariant-loop-turn : goal.invariant-loop-turn
invariant-loop-turn g l =
    Hears (model_of g.D.Drive.meaning l.fn.controller) l.start (Write 3 l.number ∷ Write 7 0x20 ∷ in_turn (λ _. Turn ∷ []) l._turn)
    (model_of g.D.Drive.meaning l.controller) l.sum

abbrev pub invariant-loop-at : goal.invariant-loop-at
invariant-loop-at g l =
    Hears (model_of g.D.Drive.meaning l.fn.controller) l.start
    (Write 3 l.number ∷ Write 7 0x20 ∷ in_turn (λ _. Turn ∷ []) l.turns ++ (Read 7 ∷ in_turn (λ _. Read 0 ∷ []) l._at))
    (model_of g.D.Drive.meaning l.controller) l.sum
