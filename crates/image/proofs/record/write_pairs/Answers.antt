-- One pair more.
use Rattle.std.proofs.Common.{false, refl, ◌∙◌, arith}
use Rattle.image.specs.Record.{pair_of}
use Rattle.image.proofs.Pieces.{joined_over}
use Rattle.image.proofs.record.write_pairs.Goals as goal

pub loop-slot-preserved : goal.loop-slot-preserved
loop-slot-preserved c =
    joined_over pair_of 2 (λ _. refl) c.args.ids.now c.loop-slot.slot (record { number = 0; bad = false }) (omega arith) c.args.pairs.now c.loop-slot.pairs _
    (omega arith) c.loop-slot.invariant (c.copy_from_slice.ensures.after ∙ c.pair_of.ensures)
