use Rattle.design.specs.Keys.{netlist}
use Rattle.scratch.proofs.Complete.{Completed}
use Rattle.scratch.proofs.completing.complete_waves.Given as goal

-- the waves before `place` are whole
abbrev pub invariant-loop-place : goal.invariant-loop-place
invariant-loop-place g l = Completed g.S.Stepper.answer (netlist l.design) l.place l.waves.items
