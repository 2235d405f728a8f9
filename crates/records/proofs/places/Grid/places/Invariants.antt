-- The places so far are those of the first records.
use Rattle.records.specs.Places.{ArePlaces}
use Rattle.records.proofs.places.Grid.places.Given as goal

abbrev pub invariant-loop-index : goal.invariant-loop-index
invariant-loop-index l = ArePlaces l.self l.index l.places.items
