use Rattle.std.proofs.Common.{All}
use Rattle.gatestep.specs.Tasks.{IsReady}
use Rattle.refusals.proofs.tasks.tasks_of.Given as goal

-- the tasks so far are ready
abbrev pub invariant-tasks : goal.invariant-tasks
invariant-tasks g l = All (IsReady 0) l.tasks.items
