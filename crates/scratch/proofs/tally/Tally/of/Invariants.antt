use Rattle.std.proofs.Common.{◌≡◌, take}
use Rattle.scratch.specs.kept.Kept.{values_at}
use Rattle.scratch.specs.kept.Tally.{tally_of}
use Rattle.scratch.proofs.tally.Tally.of.Given as goal

-- the drivers so far
abbrev pub invariant-loop-place : goal.invariant-loop-place
invariant-loop-place l = l.tally ≡ tally_of (values_at l.values (take l.place-index l.places))
