use Rattle.gatestep.specs.Step.{advance}
use Rattle.scratch.specs.kept.Run.{IsRun}
use Rattle.core_tests.proofs.reruns.random.follow.Given as goal

-- the run is that of the design
abbrev pub invariant-loop : goal.invariant-loop
invariant-loop g l = IsRun advance l.state.design l.state.run
