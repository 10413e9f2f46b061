use Rattle.std.proofs.Common.{All}
use Rattle.gatestep.specs.Tasks.{IsReady}
use Rattle.core_tests.specs.declared.pools.tasks.TheConstants.{MOMENT}
use Rattle.core_tests.proofs.pools.tasks.tasks.Given as goal

-- the tasks so far are ready
abbrev pub invariant-loop : goal.invariant-loop
invariant-loop g l = All (IsReady MOMENT) l.tasks.items
