use Rattle.std.proofs.Common.{◌≡◌, drop}
use Rattle.elaboration.specs.Ports.{is_named_twice}
use Rattle.elaboration.proofs.PortLemmas.{is_again}
use Rattle.elaboration.proofs.ports.is_named_twice.Given as goal

abbrev pub invariant-loop-connection : goal.invariant-loop-connection
invariant-loop-connection l = is_again l.named.keys (drop l.connection-index l.connections) ≡ is_named_twice l.connections
