use Rattle.std.proofs.Common.{◌≡◌, ◌≤◌, drop, length, map}
use Rattle.design.specs.Keys.{connection_in, netlist}
use Rattle.rundiff.specs.kept.Kept.{read_at}
use Rattle.rundiff.proofs.reading.old_inputs_at.Given as goal

-- the inputs from the place on are read
abbrev pub invariant-loop-place : goal.invariant-loop-place
invariant-loop-place g l =
    record {
      within : l.place ≤ length l.terminals;
      read : l.values ≡ map (λ terminal. read_at g.S.Stepper.answer (netlist l.former.old.now) (connection_in l.former.new.now.nets terminal) l.m) (drop l.place l.terminals);
    }

abbrev pub decreases-loop-place : goal.decreases-loop-place
decreases-loop-place g l = l.place
