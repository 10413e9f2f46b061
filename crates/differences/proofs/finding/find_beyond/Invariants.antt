use Rattle.std.proofs.Common.{◌≡◌, ◌++◌, length, take}
use Rattle.differences.specs.kept.Found.{differences_in, moment_beyond, names_in}
use Rattle.differences.proofs.finding.find_beyond.Given as goal

-- behind what was there, the room has the differences of the nets before this place
abbrev pub invariant-loop-place : goal.invariant-loop-place
invariant-loop-place l =
    l.room.found.items ≡ l.initial.room.found.items ++ differences_in (moment_beyond l.snapshot.design) (length l.snapshot.design.nets) (take l.place (names_in l.other.design))
