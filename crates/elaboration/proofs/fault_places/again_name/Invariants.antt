use Rattle.std.proofs.Common.{◌≡◌, [], drop}
use Rattle.elaboration.specs.FaultPlaces.{again_name}
use Rattle.elaboration.proofs.fault_places.again_name.Given as goal

abbrev pub invariant-loop-connection : goal.invariant-loop-connection
invariant-loop-connection l = again_name l.named.keys (drop l.connection-index l.connections) ≡ again_name [] l.connections
