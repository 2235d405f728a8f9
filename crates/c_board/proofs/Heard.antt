-- One call, calls and more calls, and a step more, of what is heard and where it leads.
use Rattle.std.proofs.Common.{◌≡◌, ℕ, ◌+◌, List, [], ◌∷◌, ◌++◌, refl, ap, ◌∙◌, add-one}
use Rattle.std.specs.List.{fold}
use Rattle.std.proofs.lemmas.List.Sums.{fold-append}
use Rattle.controller.specs.Model.{ControllerModel}
use Rattle.controller.specs.declared.call.Call.{Call}
use Rattle.controller.specs.Runs.{answer_to, called, runs, answers}
use Rattle.controller.proofs.Runs.{runs_joined, answers_joined}
use Rattle.c_board.specs.Rounds.{with_answer, heard, in_turn}

pub runs_none : (b : ControllerModel) → runs b [] ≡ b
unfolding runs
runs_none b = refl

pub runs_call : (b : ControllerModel) (c : Call) (cs : List Call) → runs b (c ∷ cs) ≡ runs (called b c) cs
unfolding runs
runs_call b c cs = refl

pub heard_none : (b : ControllerModel) (sum : ℕ) → heard b sum [] ≡ sum
unfolding heard answers
heard_none b sum = refl

pub heard_call : (b : ControllerModel) (sum : ℕ) (c : Call) (cs : List Call) → heard b sum (c ∷ cs) ≡ heard (called b c) (with_answer sum (answer_to b c)) cs
unfolding heard answers
heard_call b sum c cs = refl

pub heard_joined : (b : ControllerModel) (sum : ℕ) (cs ds : List Call) → heard b sum (cs ++ ds) ≡ heard (runs b cs) (heard b sum cs) ds
unfolding heard
heard_joined b sum cs ds = ap (fold with_answer sum) (answers_joined b cs ds) ∙ fold-append with_answer sum (answers b cs) (answers (runs b cs) ds)

pub in_turn_none : (step : ℕ → List Call) → in_turn step 0 ≡ []
unfolding in_turn
in_turn_none step = refl

pub in_turn_more : (step : ℕ → List Call) (k : ℕ) → in_turn step (k + 1) ≡ in_turn step k ++ step k
unfolding in_turn
in_turn_more step k = rw (add-one k) refl

pub ruleset steps = (runs_none, runs_call, runs_joined, heard_none, heard_call, heard_joined, in_turn_none, in_turn_more)
