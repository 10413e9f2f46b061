use Rattle.std.proofs.Common.{◌≡◌}
use Rattle.std.specs.Vec.{vec_len}
use Rattle.parstep.proofs.start.start_all.Given as goal

-- a seat for each worker so far
abbrev pub invariant-loop : goal.invariant-loop
invariant-loop g l = vec_len l.seats ≡ l.counter
