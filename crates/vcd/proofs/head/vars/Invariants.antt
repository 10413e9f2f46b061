use Rattle.std.proofs.Common.{[], drop}
use Rattle.design.specs.Keys.{netlist}
use Rattle.vcd.specs.Head.{var_lines}
use Rattle.vcd.specs.Scopes.{scopes_of}
use Rattle.vcd.proofs.Ways.{IsOnWay}
use Rattle.vcd.proofs.head.vars.Given as goal

abbrev pub invariant-loop-n : goal.invariant-loop-n
invariant-loop-n g l =
    IsOnWay l.initial.writer l.writer (var_lines l.n (scopes_of l.before) (drop l.n (netlist l.design).nets))
    (var_lines 0 [] (netlist l.design).nets)
