use Rattle.std.proofs.Common.{◌≡◌, ◌≤◌, drop, length}
use Rattle.elaboration.specs.kept.Numbered.{joints_from}
use Rattle.elaboration.proofs.joints.joints.Given as goal

abbrev pub invariant-connections : goal.invariant-connections
invariant-connections l = record {
  within : l.at ≤ length l.connections;
  joined : l.joints.items ≡ joints_from (drop l.at l.connections) l.at 0 l.entry.nets;
}

abbrev pub decreases-connections : goal.decreases-connections
decreases-connections l = l.at
