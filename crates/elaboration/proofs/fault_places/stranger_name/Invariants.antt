use Rattle.std.proofs.Common.{◌≡◌, drop}
use Rattle.elaboration.specs.FaultPlaces.{stranger_name}
use Rattle.elaboration.proofs.fault_places.stranger_name.Given as goal

abbrev pub invariant-loop-place : goal.invariant-loop-place
invariant-loop-place l = stranger_name l.inner l.place (drop l.place l.connections) ≡ stranger_name l.inner 0 l.connections
