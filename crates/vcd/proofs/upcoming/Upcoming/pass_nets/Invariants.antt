use Rattle.vcd.specs.kept.Kept.{IsPassing}
use Rattle.vcd.proofs.upcoming.Upcoming.pass_nets.Given as goal

abbrev pub invariant-loop-i : goal.invariant-loop-i
invariant-loop-i g l = IsPassing l.waves.waves l.first l.t l.i l.fn.self l.self l.fn.left l.left l.least l.initial.writer l.writer
