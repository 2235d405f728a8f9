-- Each turn of the loop is one turn, and after the last none is left.
use Rattle.std.proofs.Common.{◌≡◌, ℕ, ◌+◌, ◌<◌, ◌≤◌, sym, ◌∙◌, inl, inr, arith}
use Rattle.std.proofs.lemmas.Bool.{cases_lt}
use Rattle.std.proofs.Math.Bool.{Bool-set}
use Rattle.std.proofs.Math.Logic.{∥∥₁_elim}
use Rattle.drive.specs.Model.{DriveModel}
use Rattle.controller.specs.Controller.{model_of}
use Rattle.controller.proofs.Reached.{in_each_bay}
use Rattle.histories.proofs.Orders.{Within, left_most, still_more, still_ends, turns_none, turns_more, turns_on, order_reached}
use Rattle.histories.proofs.finishing.finish.Goals as goal

pub loop-made-init : goal.loop-made-init
loop-made-init g c =
    let b = model_of g.D.Drive.meaning c.args.controller.now in
    let most : ℕ = c.MOST_CYLINDERS-most.result in
    let few = in_each_bay g.D.Drive.meaning (λ (d : DriveModel). (d.cylinder < most) × (d.geometry.cylinders ≤ most)) (omega (arith, g.met.D.Drive.limits), omega (arith, g.met.D.Drive.limits))
    (λ d. (omega (arith, g.met.D.Drive.bounded d), omega (arith, g.met.D.Drive.bounded d))) c.args.controller.now.drives in
    let within : Within most b = record { stands = λ bay. (few bay).0; ends = λ bay. (few bay).1 } in
    record {
      made = sym (turns_none b);
      busy = λ k none. absurd (omega arith);
      still = λ order. record { order = order; few = omega (arith, left_most most b within order) };
    }

pub loop-made-preserved : goal.loop-made-preserved
loop-made-preserved g c =
    let b = model_of g.D.Drive.meaning c.args.controller.now in
    let before = c.loop-made.invariant in
    let on = sym c.is_busy.ensures ∙ c.if-not-is_busy.false in
    record {
      made = rw (turns_more, ← before.made) c.turn.ensures;
      busy = λ k few.
          elim (cases_lt k c.loop-made.made) [
            | inl less ↦ before.busy k less
            | inr last ↦ let now : k ≡ c.loop-made.made = omega arith in rw (now, ← before.made) on
          ];
      still = λ order. rw c.turn.ensures (still_more _ _ _ on (before.still order));
    }

pub returns-then-not-is_busy-clause-history : goal.returns-then-not-is_busy-clause-history
returns-then-not-is_busy-clause-history g c b new history leads = turns_on b history _ _ c.loop-made.made leads c.loop-made.invariant.made

pub returns-clause-rests : goal.returns-clause-rests
returns-clause-rests g c =
    let most : ℕ = c.MOST_CYLINDERS-most.result + 8 in
    let all : c.loop-made.made ≡ most = omega (arith, c.loop-made.auto.made-end, c.loop-made-test.false) in
    ∥∥₁_elim c.args.controller.now.reached (Bool-set _ _) (λ r. still_ends _ most (rw all at (c.loop-made.invariant.still (order_reached _ r))))

pub returns-clause-history : goal.returns-clause-history
returns-clause-history g c b new history leads =
    let most : ℕ = c.MOST_CYLINDERS-most.result + 8 in
    let all : c.loop-made.made ≡ most = omega (arith, c.loop-made.auto.made-end, c.loop-made-test.false) in
    turns_on b history _ _ most leads (rw all at c.loop-made.invariant.made)
