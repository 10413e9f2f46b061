use Rattle.std.proofs.Common.{◌≡◌, drop}
use Rattle.elaboration.specs.FaultPlaces.{misfit_name}
use Rattle.elaboration.proofs.fault_places.misfit_name.Given as goal

abbrev pub invariant-loop-place : goal.invariant-loop-place
invariant-loop-place l = misfit_name l.outer.nets l.inner l.place (drop l.place l.connections) ≡ misfit_name l.outer.nets l.inner 0 l.connections
