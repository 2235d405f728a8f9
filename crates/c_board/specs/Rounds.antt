-- A host's rounds at a controller, which are timed, as lists of calls; and the sum that is heard of their answers.
use Rattle.std.specs.Prelude.{◌≡◌, ℕ, zero, suc, cond, ◌+◌, ◌*◌, ◌%◌, ◌^◌, List, [], ◌∷◌, ◌++◌, Some, None, Ok, Err, ◌==◌}
use Rattle.std.specs.List.{fold}
use Rattle.controller.specs.Access.{refusal_number}
use Rattle.controller.specs.Model.{ControllerModel}
use Rattle.controller.specs.declared.call.Call.{Call}
use Rattle.controller.specs.declared.call.Call.TheVariants.{Read, Write, Turn}
use Rattle.controller.specs.Runs.{Answer, runs, answers}
use Rattle.c_board.specs.declared.rounds.PlainRounds.{PlainRounds}

-- ---- what is heard
-- the byte that was read, the number of the refusal, or 0
abbrev pub number_in : Answer → ℕ
number_in (Ok (Some byte)) = byte
number_in (Ok None) = 0
number_in (Err why) = refusal_number why

-- a sum of 32 bits with one more answer
abbrev pub with_answer : ℕ → Answer → ℕ
with_answer sum a = ((sum * 31) % 2 ^ 32 + number_in a) % 2 ^ 32

-- a sum with the answers to these calls
unfoldable pub heard : ControllerModel → ℕ → List Call → ℕ
heard b sum calls = fold with_answer sum (answers b calls)

-- From a controller, and a sum of what was heard before, these calls lead to another, and to the sum with their answers.
abbrev pub Hears : ControllerModel → ℕ → List Call → ControllerModel → ℕ → Type 0
Hears before start calls after sum = (after ≡ runs before calls) × (sum ≡ heard before start calls)

-- ---- rounds
-- the calls of so many steps, each by how many came before it
unfoldable pub in_turn : (ℕ → List Call) → ℕ → List Call
in_turn step zero = []
in_turn step (suc k) = in_turn step k ++ step k

-- Read of a sector of 512 bytes by its number, with so many turns
abbrev pub sector_read : ℕ → ℕ → List Call
sector_read turns number =
    Write 3 number ∷ Write 7 0x20 ∷ in_turn (λ _. Turn ∷ []) turns ++ (Read 7 ∷ in_turn (λ _. Read 0 ∷ []) 512)

-- the byte that is given to a sector as its k-th: its number for the first, and those after it, modulo 256
unfoldable pub byte_given : ℕ → ℕ → List Call
byte_given number k = Write 0 ((k % 256 + number) % 256) ∷ []

-- Write of a sector of 512 bytes by its number, with one turn
abbrev pub sector_written : ℕ → List Call
sector_written number = Write 3 number ∷ Write 7 0x30 ∷ in_turn (byte_given number) 512 ++ (Turn ∷ Read 7 ∷ [])

-- five accesses that are refused while BUSY is on or bytes are offered
abbrev pub refused : List Call
refused = Read 8 ∷ Write 8 1 ∷ Write 0 1 ∷ Write 2 1 ∷ Write 7 0xff ∷ []

-- a round of a kind, by how many came before it: the sectors 0 to 7 in turn
abbrev pub round_of : PlainRounds → ℕ → List Call
round_of r k = cond (r.kind == 0) (sector_read r.turns (k % 8)) (cond (r.kind == 1) (sector_written (k % 8)) refused)

-- so many rounds
unfoldable pub rounds_of : PlainRounds → List Call
rounds_of r = in_turn (round_of r) r.count
