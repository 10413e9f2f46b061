use Rattle.std.proofs.Common.{◌≡◌, ◌+◌, ◌-◌, length, map, take, All}
use Rattle.floor.specs.kept.Pieces.{first_task}
use Rattle.gatestep.specs.Step.{advance}
use Rattle.gatestep.specs.Tasks.{PendingFrom}
use Rattle.parstep.specs.kept.Dealt.{gathering}
use Rattle.parstep.proofs.gather.gather.Given as goal

-- the pieces so far are answered, and the others out
abbrev pub invariant-loop-number : goal.invariant-loop-number
invariant-loop-number g l =
    record {
      gathered : l.floor ≡ gathering (length l.tasks) l.pieces (map (λ task. advance task l.t) l.tasks) l.number (l.pieces - l.number);
      later : All (PendingFrom (l.t + 1)) (take (first_task (length l.tasks) l.pieces l.number) (map (λ task. advance task l.t) l.tasks));
      seats : length l.seats ≡ length l.fn.seats;
    }
