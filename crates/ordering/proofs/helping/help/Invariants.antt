use Rattle.design.specs.Keys.{netlist}
use Rattle.gatestep.specs.Step.{advance}
use Rattle.ordering.specs.kept.Helpers.{IsSound}
use Rattle.ordering.proofs.helping.help.Given as goal

-- what is found so far is so
abbrev pub invariant-loop : goal.invariant-loop
invariant-loop l = IsSound advance (netlist l.design) l.progress
