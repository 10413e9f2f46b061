use Rattle.std.proofs.Common.{◌≡◌, drop}
use Rattle.elaboration.specs.FaultPlaces.{refused_from}
use Rattle.elaboration.proofs.fault_places.refused.Given as goal

abbrev pub invariant-loop-place : goal.invariant-loop-place
invariant-loop-place l = refused_from l.modules.modules (drop l.place l.modules.modules) ≡ refused_from l.modules.modules l.modules.modules
