use Rattle.std.proofs.Common.{◌≡◌, map, take}
use Rattle.gatestep.specs.Step.{due, initial}
use Rattle.waveform.specs.Timelines.{value_by}
use Rattle.scratch.proofs.resuming.last_states.Given as goal

-- the states of the traces so far
abbrev pub invariant-loop-trace : goal.invariant-loop-trace
invariant-loop-trace l = l.states.items ≡ map (λ line. value_by due initial line l.t) (take l.trace-index l.traces)
