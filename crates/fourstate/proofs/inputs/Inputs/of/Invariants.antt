use Rattle.std.proofs.Common.{◌≡◌, ◌≤◌, length, drop}
use Rattle.fourstate.proofs.inputs.Inputs.of.Given as goal

-- the values from the place on
abbrev pub invariant-loop-place : goal.invariant-loop-place
invariant-loop-place l = record { within : l.place ≤ length l.values; value : l.inputs ≡ drop l.place l.values }

abbrev pub decreases-loop-place : goal.decreases-loop-place
decreases-loop-place l = l.place
