use Rattle.std.proofs.Common.{◌≡◌, [], replicate}
use Rattle.hubcore.specs.States.{viewer}
use Rattle.hubcore.proofs.machine.new_viewers.Given as goal

abbrev pub invariant-loop-number : goal.invariant-loop-number
invariant-loop-number l = l.viewers.items ≡ replicate l._number (viewer 0 [])
