use Rattle.std.proofs.Common.{take}
use Rattle.design.specs.Keys.{netlist}
use Rattle.rundiff.specs.kept.Fronts.{AreOutcomes}
use Rattle.rundiff.proofs.gates.look_at.Given as goal

-- what comes of the gates so far
abbrev pub invariant-loop-place : goal.invariant-loop-place
invariant-loop-place g l = AreOutcomes g.S.Stepper.answer (netlist l.former.old.now) (netlist l.former.new.now) l.t (take l.place-index l.held) l.out
