use Rattle.std.proofs.Common.{◌≡◌, ◌≤◌, ◌+◌, map, take, length, All}
use Rattle.std.specs.Vec.{vec_len, vec_capacity}
use Rattle.gatestep.specs.Step.{advance}
use Rattle.gatestep.specs.Tasks.{PendingFrom}
use Rattle.parstep.proofs.message.fill.Given as goal

-- the answers so far, and room for the rest
abbrev pub invariant-loop-task : goal.invariant-loop-task
invariant-loop-task l =
    record {
      answers : l.drivers.items ≡ map (λ task. advance task l.t) (take l.task-index l.tasks);
      later : All (PendingFrom (l.t + 1)) l.drivers.items;
      filled : vec_len l.drivers ≡ l.task-index;
      fits : length l.tasks ≤ vec_capacity l.drivers;
    }
