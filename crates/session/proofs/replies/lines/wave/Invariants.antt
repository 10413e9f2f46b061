use Rattle.std.proofs.Common.{take}
use Rattle.devices.specs.Outgoing.{Adds}
use Rattle.session.specs.Replies.{wave_lines}
use Rattle.session.proofs.replies.lines.wave.Given as goal

abbrev pub invariant-loop-change : goal.invariant-loop-change
invariant-loop-change g l = Adds l.initial.writer l.writer (wave_lines (take l.change-index l.changes))
