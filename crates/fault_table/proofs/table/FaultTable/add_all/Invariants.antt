-- The entries that are left, from here on, add what all of them add from the start; none is taken away.
use Rattle.std.proofs.Common.{◌≡◌, ◌≤◌, length, drop}
use Rattle.fault_table.specs.Adding.{all_added}
use Rattle.fault_table.proofs.table.FaultTable.add_all.Given as goal

abbrev pub invariant-loop-entry : goal.invariant-loop-entry
invariant-loop-entry g l =
    (all_added l.initial.self.faults.items l.entries ≡ all_added l.self.faults.items (drop l.entry-index l.entries))
    × (length l.initial.self.faults.items ≤ length l.self.faults.items)
    × (l.self.drive ≡ l.initial.self.drive)
