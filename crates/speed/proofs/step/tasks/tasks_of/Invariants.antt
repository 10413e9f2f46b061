use Rattle.std.proofs.Common.{All}
use Rattle.gatestep.specs.Tasks.{IsReady}
use Rattle.speed.proofs.step.tasks.tasks_of.Given as goal

-- all tasks so far are ready
abbrev pub invariant-loop-n : goal.invariant-loop-n
invariant-loop-n l = All (IsReady 0) l.tasks.items
