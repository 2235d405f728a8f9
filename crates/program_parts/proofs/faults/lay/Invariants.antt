-- What stands in the list so far, and what the stretches and records that are left make, are all the entries.
use Rattle.std.proofs.Common.{◌≡◌, ◌+◌, ◌++◌, map, drop}
use Rattle.std.specs.List.{flat_map, enumerate_from}
use Rattle.std.specs.Iterator.Adapters.{copied_source}
use Rattle.std.specs.Slice.Iter.{iter_rest}
use Rattle.program_parts.specs.Laying.{entry_for, wanted_at, wanted}
use Rattle.program_parts.proofs.faults.lay.Given as goal

abbrev pub invariant-loop-index : goal.invariant-loop-index
invariant-loop-index g l =
    let rows = map (λ row. row.now) l.rows in
    l.entries.items ++ flat_map (wanted_at rows) (enumerate_from l.index (drop l.index l.places)) ≡ wanted rows l.places

abbrev pub invariant-loop-stretch : goal.invariant-loop-stretch
invariant-loop-stretch g l =
    let rows = map (λ row. row.now) l.rows in
    let left = flat_map (wanted_at rows) (enumerate_from (l.index + 1) (drop (l.index + 1) l.places)) in
    l.entries.items ++ (map (entry_for l.index l.place) (iter_rest (copied_source l.stretch-iterator)) ++ left) ≡ wanted rows l.places
