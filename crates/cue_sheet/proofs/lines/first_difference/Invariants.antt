-- The newlines so far, and those that come before the texts differ.
use Rattle.std.proofs.Common.{◌≡◌, ◌+◌, ◌≤◌, length}
use Rattle.std.specs.Iterator.Adapters.{zip_first, zip_second}
use Rattle.std.specs.Slice.Iter.{iter_rest}
use Rattle.cue_sheet.specs.Lines.{newlines_alike}
use Rattle.cue_sheet.proofs.lines.first_difference.Given as goal

abbrev pub invariant-loop-x : goal.invariant-loop-x
invariant-loop-x l =
    let xs = iter_rest (zip_first l.x-iterator) in
    let ys = iter_rest (zip_second l.x-iterator) in
    record {
      few : l.line + length xs ≤ length l.fn.sheet + 1;
      alike : l.line + newlines_alike xs ys ≡ 1 + newlines_alike l.fn.sheet l.fn.script;
    }
