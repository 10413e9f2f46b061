use Rattle.std.proofs.Common.{◌≡◌, map, take}
use Rattle.gatestep.specs.Step.{initial}
use Rattle.design.specs.Keys.{netlist}
use Rattle.scratch.proofs.moment.Moment.before.Given as goal

-- the initial state for each gate so far
abbrev pub invariant-loop : goal.invariant-loop
invariant-loop l = l.states.items ≡ map (λ _. initial) (take l.counter (netlist l.design).gates)
