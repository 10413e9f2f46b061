use Rattle.std.proofs.Common.{◌≤◌, ◌+◌, ◌-◌, suc}
use Rattle.devices.specs.Outgoing.{Adds}
use Rattle.vcd.specs.Changes.{lines_below}
use Rattle.vcd.specs.kept.Kept.{IsAhead}
use Rattle.vcd.proofs.moments.moments.Given as goal

abbrev pub invariant-loop-t : goal.invariant-loop-t
invariant-loop-t g l =
    IsAhead l.waves.waves (l.t + 1) 0 l.upcoming l.left × (l.t ≤ l.horizon) ×
    Adds l.fn.writer l.writer (lines_below l.waves.waves l.waves.horizon (suc l.t))

abbrev pub decreases-loop-t : goal.decreases-loop-t
decreases-loop-t g l = l.horizon - l.t
