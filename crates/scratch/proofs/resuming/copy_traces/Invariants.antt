use Rattle.std.proofs.Common.{◌≡◌, map, take}
use Rattle.design.specs.Keys.{netlist}
use Rattle.scratch.specs.kept.Run.{trace_of}
use Rattle.scratch.proofs.resuming.copy_traces.Given as goal

-- the traces of the gates so far
abbrev pub invariant-loop-place : goal.invariant-loop-place
invariant-loop-place g l = l.traces.items ≡ map (trace_of g.S.Stepper.answer (netlist l.design)) (take l.place (netlist l.design).gates)
