use Rattle.std.proofs.Common.{◌≡◌, ◌++◌, take}
use Rattle.std.specs.List.{flat_map}
use Rattle.parstep.specs.kept.Jobs.{asked_in}
use Rattle.parstep.proofs.places.record_all.Given as goal

-- what the places so far asked counts as asked
abbrev pub invariant-loop-place : goal.invariant-loop-place
invariant-loop-place g l = l.alone.history.asked ≡ l.fn.alone.history.asked ++ flat_map asked_in (take l.place-index l.places)
