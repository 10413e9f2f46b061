use Rattle.std.proofs.Common.{◌≡◌, drop}
use Rattle.elaboration.specs.Ports.{has_stranger}
use Rattle.elaboration.proofs.ports.has_stranger.Given as goal

abbrev pub invariant-loop-place : goal.invariant-loop-place
invariant-loop-place l = has_stranger l.inner l.place (drop l.place l.connections) ≡ has_stranger l.inner 0 l.connections
