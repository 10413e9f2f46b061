use Rattle.std.proofs.Common.{◌≡◌, take}
use Rattle.differences.specs.Differences.{first_moment}
use Rattle.differences.specs.kept.Found.{differences_in, names_in}
use Rattle.differences.proofs.finding.find_all.Given as goal

-- the room has the differences of the nets before this place
abbrev pub invariant-loop-place : goal.invariant-loop-place
invariant-loop-place l = l.room.found.items ≡ differences_in (first_moment l.snapshot.design l.other.design) 0 (take l.place (names_in l.snapshot.design))
