-- The check bytes of the first sectors are written.
use Rattle.std.proofs.Common.{◌≡◌, take}
use Rattle.std.specs.List.{flat_map}
use Rattle.image.specs.Parts.{over}
use Rattle.image.proofs.record.write_checks.Given as goal

abbrev pub invariant-loop-slot : goal.invariant-loop-slot
invariant-loop-slot l = l.checks ≡ over 0 (flat_map (λ _. l.check) (take l.slot l.ids)) l.initial.checks
