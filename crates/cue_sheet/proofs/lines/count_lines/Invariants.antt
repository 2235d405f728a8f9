-- The newlines so far, and those that follow.
use Rattle.std.proofs.Common.{◌≡◌, ◌+◌, ◌≤◌, drop}
use Rattle.std.specs.Prelude.{◌==◌, count_by}
use Rattle.cue_sheet.proofs.lines.count_lines.Given as goal

abbrev pub invariant-loop-byte : goal.invariant-loop-byte
invariant-loop-byte l = record {
  few : l.newlines ≤ l.byte-index;
  alike : l.newlines + count_by (λ byte. byte == 10) (drop l.byte-index l.fn.text) ≡ count_by (λ byte. byte == 10) l.fn.text;
}
