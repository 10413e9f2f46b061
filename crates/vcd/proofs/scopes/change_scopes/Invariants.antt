use Rattle.std.proofs.Common.{◌≡◌, length}
use Rattle.vcd.specs.Scopes.{scope_lines, scopes_of}
use Rattle.vcd.proofs.scopes.change_scopes.Given as goal

abbrev pub invariant-loop-from_rest : goal.invariant-loop-from_rest
invariant-loop-from_rest g l =
    scope_lines (scopes_of l.from) (scopes_of l.to) ≡ scope_lines (scopes_of l.initial.from) (scopes_of l.initial.to)

abbrev pub decreases-loop-from_rest : goal.decreases-loop-from_rest
decreases-loop-from_rest g l = length l.from
