use Rattle.design.specs.Keys.{netlist}
use Rattle.gatestep.specs.Step.{advance}
use Rattle.ordering.specs.kept.Helpers.{IsSound}
use Rattle.ordering.proofs.looking.look_along.Given as goal

-- what is found so far is so
abbrev pub invariant-loop-place : goal.invariant-loop-place
invariant-loop-place l = IsSound advance (netlist l.design) l.progress
