use Rattle.std.proofs.Common.{◌≡◌, true, map, take}
use Rattle.std.specs.Cmp.Lexicographic.{pointwise}
use Rattle.fourstate.specs.Values.{same_value}
use Rattle.scratch.specs.kept.Kept.{input_value}
use Rattle.rundiff.specs.kept.OldRuns.{old_value}
use Rattle.rundiff.proofs.old_lines.OldLines.are_read.Given as goal

-- the inputs so far read the same
abbrev pub invariant-loop-i : goal.invariant-loop-i
invariant-loop-i l =
    record {
      same : l.self ≡ l.fn.self;
      read : pointwise same_value (map (old_value l.fn.self.run l.t) (take l.i l.cell.inputs)) (map (input_value l.values) (take l.i l.cell.inputs)) ≡ true;
    }
