use Rattle.std.proofs.Common.{◌*◌, length}
use Rattle.std.specs.Prelude.{min}
use Rattle.devices.specs.Outgoing.{Adds}
use Rattle.vcd.specs.kept.Kept.{IsAhead, lines_from}
use Rattle.vcd.proofs.upcoming.Upcoming.pass.Given as goal

abbrev pub invariant-loop-group : goal.invariant-loop-group
invariant-loop-group g l =
    IsAhead l.waves.waves l.t l.group l.self l.left ×
    Adds l.initial.writer l.writer (lines_from l.waves.waves l.t 0 (min (l.group * 256) (length l.waves.waves)))
