use Rattle.std.proofs.Common.{◌≡◌, take}
use Rattle.scratch.specs.kept.Kept.{currents_of, values_at}
use Rattle.scratch.proofs.resolving.gather_currents.Given as goal

-- the values so far
abbrev pub invariant-loop-place : goal.invariant-loop-place
invariant-loop-place l = l.out.items ≡ values_at (currents_of l.states l.t) (take l.place-index l.places)
