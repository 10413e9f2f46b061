use Rattle.std.proofs.Common.{length}
use Rattle.vcd.specs.Scopes.{open_lines, scopes_of}
use Rattle.vcd.proofs.Ways.{IsOnWay}
use Rattle.vcd.proofs.scopes.open_scopes.Given as goal

abbrev pub invariant-loop-scope : goal.invariant-loop-scope
invariant-loop-scope g l = IsOnWay l.initial.writer l.writer (open_lines (scopes_of l.name)) (open_lines (scopes_of l.initial.name))

abbrev pub decreases-loop-scope : goal.decreases-loop-scope
decreases-loop-scope g l = length l.name
