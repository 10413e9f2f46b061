use Rattle.std.proofs.Common.{◌≡◌, drop}
use Rattle.elaboration.specs.Ports.{first_instance_fault}
use Rattle.elaboration.proofs.ports.first_instance_fault.Given as goal

abbrev pub invariant-loop-instance : goal.invariant-loop-instance
invariant-loop-instance l = first_instance_fault l.text l.modules.modules l.outer.nets (drop l.instance-index l.outer.instances) ≡ first_instance_fault l.text l.modules.modules l.outer.nets l.outer.instances
