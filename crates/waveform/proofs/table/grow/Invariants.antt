use Rattle.std.proofs.Common.{◌-◌, ◌+◌, length}
use Rattle.waveform.specs.kept.Tables.{IsUnchanged}
use Rattle.waveform.proofs.table.grow.Given as goal

abbrev pub invariant-loop-lines : goal.invariant-loop-lines
invariant-loop-lines g l = IsUnchanged l.initial.lines l.lines

abbrev pub decreases-loop-lines : goal.decreases-loop-lines
decreases-loop-lines g l = l.key + 1 - length l.lines
