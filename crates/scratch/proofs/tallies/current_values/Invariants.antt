use Rattle.std.proofs.Common.{◌≡◌, map, take}
use Rattle.scratch.proofs.tallies.current_values.Given as goal

-- the values so far
abbrev pub invariant-loop-state : goal.invariant-loop-state
invariant-loop-state l = l.values.items ≡ map (λ s. s.current) (take l.state-index l.states)
