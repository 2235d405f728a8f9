-- The check bytes of one sector more.
use Rattle.std.proofs.Common.{false, length, sym, ap, ◌∙◌, arith, rules}
use Rattle.image.proofs.Pieces.{joined_over}
use Rattle.image.proofs.record.write_checks.Goals as goal

pub loop-slot-preserved : goal.loop-slot-preserved
loop-slot-preserved c =
    joined_over (λ _. c.args.check) 4 (λ _. ap length (sym c.copy_from_slice.ensures.after) ∙ search rules) c.args.ids.now c.loop-slot.slot (record { number = 0; bad = false }) (omega arith)
    c.args.checks.now c.loop-slot.checks _ (omega arith) c.loop-slot.invariant c.copy_from_slice.ensures.after
