use Rattle.std.proofs.Common.{◌≡◌, Some, map, take}
use Rattle.design.specs.kept.Places.{place_of}
use Rattle.scratch.proofs.wiring.drivers_of.Given as goal

-- the places so far
abbrev pub invariant-loop-driver : goal.invariant-loop-driver
invariant-loop-driver l = map (λ place. Some place) l.places.items ≡ map (λ gate. place_of l.design.gates gate) (take l.driver-index l.drivers)
