use Rattle.std.proofs.Common.{length}
use Rattle.vcd.specs.Scopes.{close_lines, scopes_of}
use Rattle.vcd.proofs.Ways.{IsOnWay}
use Rattle.vcd.proofs.scopes.close_scopes.Given as goal

abbrev pub invariant-loop-within : goal.invariant-loop-within
invariant-loop-within g l = IsOnWay l.initial.writer l.writer (close_lines (scopes_of l.name)) (close_lines (scopes_of l.initial.name))

abbrev pub decreases-loop-within : goal.decreases-loop-within
decreases-loop-within g l = length l.name
