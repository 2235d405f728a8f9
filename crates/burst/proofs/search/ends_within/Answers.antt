-- A byte is below 2 to the eighth; below that, nothing is left of it past the room exactly where it is smaller.
use Rattle.std.proofs.Common.{◌≡◌, ◌/◌, ◌^◌, ◌<◌, ◌≤◌, sym, ◌∙◌, ⊎_elim, arith, pow_pos, pow_mono, rules}
use native.Mathlib.Nat.{div-eq_of_lt}
use Rattle.std.proofs.lemmas.Bool.{cases_lt, lt-ltb, le-ltb, eq-eqb, ne_eqb, le-leb}
use Rattle.std.proofs.lemmas.Nat.{le-div}
use Rattle.burst.proofs.search.ends_within.Goals as goal

pub returns-then-room-ge8 : goal.returns-then-room-ge8
returns-then-room-ge8 c =
    let p = c.args.pattern in
    let room = c.args.room in
    let wide : 8 ≤ room = omega arith in
    let byte : p < 256 = search rules in
    let up : 2 ^ 8 ≤ 2 ^ room = pow_mono wide in
    le-leb 8 room wide ∙ sym (lt-ltb p (2 ^ room) (omega arith))

pub returns-else-room-ge8 : goal.returns-else-room-ge8
returns-else-room-ge8 c =
    let p = c.args.pattern in
    let room = c.args.room in
    ⊎_elim
    (λ l. let q : p / 2 ^ room ≡ 0 = div-eq_of_lt l in eq-eqb (p / 2 ^ room) 0 q ∙ sym (lt-ltb p (2 ^ room) l))
    (λ l. let q : 1 ≤ p / 2 ^ room = le-div 1 p (2 ^ room) (pow_pos room) (omega arith) in ne_eqb (p / 2 ^ room) 0 (omega arith) ∙ sym (le-ltb p (2 ^ room) l))
    (cases_lt p (2 ^ room))
