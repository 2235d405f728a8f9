-- The pairs of the first IDs are written.
use Rattle.std.proofs.Common.{◌≡◌, take}
use Rattle.std.specs.List.{flat_map}
use Rattle.image.specs.Parts.{over}
use Rattle.image.specs.Record.{pair_of}
use Rattle.image.proofs.record.write_pairs.Given as goal

abbrev pub invariant-loop-slot : goal.invariant-loop-slot
invariant-loop-slot l = l.pairs ≡ over 0 (flat_map pair_of (take l.slot l.ids)) l.initial.pairs
