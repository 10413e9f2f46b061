use Rattle.std.proofs.Common.{◌≡◌, drop}
use Rattle.elaboration.specs.FaultPlaces.{refused_in}
use Rattle.elaboration.proofs.fault_places.refused_in.Given as goal

abbrev pub invariant-loop-instance : goal.invariant-loop-instance
invariant-loop-instance l = refused_in l.modules.modules l.outer.nets (drop l.instance-index l.outer.instances) ≡ refused_in l.modules.modules l.outer.nets l.outer.instances
