use Rattle.std.proofs.Common.{All}
use Rattle.core_tests.specs.declared.pools.tasks.TheConstants.{MOMENT}
use Rattle.gatestep.specs.Tasks.{IsReady}
use Rattle.core_tests.proofs.pools.jobs.jobs.Given as goal

-- the jobs so far
abbrev pub invariant-loop : goal.invariant-loop
invariant-loop g l = All (λ job. All (IsReady MOMENT) job.tasks.items) l.jobs.items
