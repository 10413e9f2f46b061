use Rattle.std.proofs.Common.{take}
use Rattle.design.specs.Keys.{netlist}
use Rattle.gateline.proofs.filling.find_inputs.Given as goal
use Rattle.gateline.specs.kept.Known.{AreFound, AreMarked, KeepsMarks}

-- the waves of the inputs so far are found
abbrev pub invariant-loop-input : goal.invariant-loop-input
invariant-loop-input g l =
    record {
      found : AreFound g.S.Stepper.answer (netlist l.design) l.found l.waves;
      marked : AreMarked l.found (take l.input-index l.input-items);
      kept : KeepsMarks l.fn.found l.found;
    }
