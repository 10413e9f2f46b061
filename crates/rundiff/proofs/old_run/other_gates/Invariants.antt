use Rattle.std.proofs.Common.{◌≡◌, length}
use Rattle.design.specs.Keys.{netlist}
use Rattle.rundiff.specs.Dirty.{is_new}
use Rattle.rundiff.specs.kept.OldRuns.{HoldsEach}
use Rattle.rundiff.specs.kept.Places.{gate_at}
use Rattle.rundiff.proofs.old_run.other_gates.Given as goal

-- those of the gates so far
abbrev pub invariant-loop-place : goal.invariant-loop-place
invariant-loop-place l =
    record {
      count : length l.others.items ≡ l.place;
      each : HoldsEach l.others.items (λ p other. other ≡ is_new (netlist l.former.old.now) (gate_at (netlist l.former.new.now) p));
    }
