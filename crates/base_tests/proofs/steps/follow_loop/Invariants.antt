use Rattle.gatestep.specs.Tasks.{PendingFrom}
use Rattle.base_tests.proofs.steps.follow_loop.Given as goal

-- nothing pending is earlier than the moment
abbrev pub invariant-loop-t : goal.invariant-loop-t
invariant-loop-t g l = PendingFrom l.t l.state
