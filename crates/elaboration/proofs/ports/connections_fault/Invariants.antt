use Rattle.std.proofs.Common.{◌≡◌, drop}
use Rattle.elaboration.specs.Ports.{connections_fault}
use Rattle.elaboration.proofs.ports.connections_fault.Given as goal

abbrev pub invariant-loop-place : goal.invariant-loop-place
invariant-loop-place l = connections_fault l.outer.nets l.inner l.place (drop l.place l.connections) ≡ connections_fault l.outer.nets l.inner 0 l.connections
