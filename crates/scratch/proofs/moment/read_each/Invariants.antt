use Rattle.std.proofs.Common.{◌≡◌, ◌≤◌, drop, length, map}
use Rattle.scratch.specs.kept.Kept.{input_value}
use Rattle.scratch.proofs.moment.read_each.Given as goal

-- the inputs from the place on are read
abbrev pub invariant-loop-place : goal.invariant-loop-place
invariant-loop-place l = record { within : l.place ≤ length l.inputs; read : l.read_values ≡ map (input_value l.values) (drop l.place l.inputs) }

abbrev pub decreases-loop-place : goal.decreases-loop-place
decreases-loop-place l = l.place
