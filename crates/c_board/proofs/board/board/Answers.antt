-- The board's drives mean what is asked for, each in its bay.
use Rattle.std.proofs.Common.{[], ◌∷◌, ap₂, ◌∙◌, rules}
use Rattle.controller.specs.Model.{made, drives_of}
use Rattle.c_board.specs.Board.{board_model}
use Rattle.c_board.proofs.board.board.Goals as goal

pub returns : goal.returns
unfolding board_model
returns c = c.new.ensures.model ∙ ap₂ (λ w f. made (drives_of (λ d. d) (w ∷ f ∷ []))) (search rules) (search rules)
