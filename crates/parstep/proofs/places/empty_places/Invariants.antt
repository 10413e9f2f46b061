use Rattle.std.proofs.Common.{◌≡◌}
use Rattle.std.specs.Vec.{vec_len}
use Rattle.parstep.proofs.places.empty_places.Given as goal

-- a place for each number so far
abbrev pub invariant-loop : goal.invariant-loop
invariant-loop g l = vec_len l.places ≡ l.counter
