use Rattle.std.proofs.Common.{◌≡◌, None, replicate}
use Rattle.elaboration.proofs.joints.nothing.Given as goal

abbrev pub invariant-loop-place : goal.invariant-loop-place
invariant-loop-place g l = l.list.items ≡ replicate l._place None
