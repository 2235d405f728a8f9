-- Runs one after another, and what one call more adds to a run.
use Rattle.std.proofs.Common.{◌≡◌, ℕ, ◌+◌, ◌<◌, List, [], ◌∷◌, ◌++◌, length, get_or, take, refl, sym, ap, ◌∙◌}
use Rattle.std.proofs.lemmas.List.{take_more}
use Rattle.controller.specs.Model.{ControllerModel}
use Rattle.controller.specs.declared.call.Call.{Call}
use Rattle.controller.specs.Runs.{Answer, answer_to, called, runs, answers, Ran}

-- a run of two lists is a run of the first and then of the second
pub runs_joined : (b : ControllerModel) (cs ds : List Call) → runs b (cs ++ ds) ≡ runs (runs b cs) ds
unfolding runs
runs_joined b [] ds = refl
runs_joined b (c ∷ cs) ds = runs_joined (called b c) cs ds

pub answers_joined : (b : ControllerModel) (cs ds : List Call) → answers b (cs ++ ds) ≡ answers b cs ++ answers (runs b cs) ds
unfolding runs answers
answers_joined b [] ds = refl
answers_joined b (c ∷ cs) ds = ap (λ r. answer_to b c ∷ r) (answers_joined (called b c) cs ds)

-- the answers, and where the calls lead, tell all of it
pub ran : (before : ControllerModel) (calls : List Call) (given : List Answer) (after : ControllerModel) → given ≡ answers before calls → after ≡ runs before calls → Ran before calls given after
ran before calls given after are leads =
    record { answers_are = are; leads = leads; continues = λ new is_new history led. runs_joined new history calls ∙ ap (λ b. runs b calls) led ∙ sym leads }

-- no call, and one call more
pub runs_none : (b : ControllerModel) → runs b [] ≡ b
unfolding runs
runs_none b = refl

pub answers_none : (b : ControllerModel) → answers b [] ≡ []
unfolding answers
answers_none b = refl

pub runs_more : (b : ControllerModel) (calls : List Call) (i : ℕ) (c : Call) → i < length calls → runs b (take (i + 1) calls) ≡ called (runs b (take i calls)) (get_or calls i c)
unfolding runs
runs_more b calls i c here = ap (runs b) (take_more calls i c here) ∙ runs_joined b (take i calls) (get_or calls i c ∷ [])

pub answers_more : (b : ControllerModel) (calls : List Call) (i : ℕ) (c : Call) → i < length calls → answers b (take (i + 1) calls) ≡ answers b (take i calls) ++ (answer_to (runs b (take i calls)) (get_or calls i c) ∷ [])
unfolding answers
answers_more b calls i c here = ap (answers b) (take_more calls i c here) ∙ answers_joined b (take i calls) (get_or calls i c ∷ [])

pub ruleset steps = (runs_joined, runs_none, answers_none, runs_more, answers_more)
