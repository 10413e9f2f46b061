use Rattle.std.proofs.Common.{◌≡◌, ◌+◌, map, take, All}
use Rattle.gatestep.specs.Step.{advance}
use Rattle.gatestep.specs.Tasks.{PendingFrom}
use Rattle.gatestep.proofs.serial.SerialStepper.step.Given as goal

-- the answers so far, and when what they leave pending is due
abbrev pub invariant-loop-task : goal.invariant-loop-task
invariant-loop-task l =
    record {
      answers : l.out.items ≡ map (λ task. advance task l.t) (take l.task-index l.tasks);
      later : All (PendingFrom (l.t + 1)) l.out.items;
    }
