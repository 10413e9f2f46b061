use Rattle.vcd.specs.kept.Kept.{ArePassing}
use Rattle.vcd.proofs.upcoming.Upcoming.pass_blocks.Given as goal

abbrev pub invariant-loop-i : goal.invariant-loop-i
invariant-loop-i g l = ArePassing l.waves.waves l.first l.t l.i l.fn.self l.self l.left l.least l.initial.writer l.writer
