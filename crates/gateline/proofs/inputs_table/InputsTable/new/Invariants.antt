use Rattle.std.proofs.Common.{◌≤◌, ◌-◌, length}
use Rattle.gateline.proofs.Codes.{AreEntries}
use Rattle.gateline.proofs.inputs_table.InputsTable.new.Given as goal

-- the entries stand for all values whose numbers are below their count
abbrev pub invariant-loop-entries : goal.invariant-loop-entries
invariant-loop-entries l =
    record {
      begun : 2 ≤ length l.entries.items;
      within : length l.entries.items ≤ 512;
      are : AreEntries l.entries.items;
    }

abbrev pub decreases-loop-entries : goal.decreases-loop-entries
decreases-loop-entries l = 512 - length l.entries.items
