use Rattle.std.proofs.Common.{◌≡◌, take}
use Rattle.scratch.specs.kept.Kept.{values_at}
use Rattle.scratch.proofs.moment.gather.Given as goal

-- the values so far
abbrev pub invariant-loop-place : goal.invariant-loop-place
invariant-loop-place l = l.out.items ≡ values_at l.values (take l.place-index l.places)
