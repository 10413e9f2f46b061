use Rattle.std.proofs.Common.{◌≡◌, take}
use Rattle.scratch.specs.kept.Kept.{currents_of}
use Rattle.scratch.proofs.moment.find_currents.Given as goal

-- the current values so far
abbrev pub invariant-loop-state : goal.invariant-loop-state
invariant-loop-state l = l.out.items ≡ currents_of (take l.state-index l.states) l.t
