use Rattle.std.proofs.Common.{◌≡◌, map, take}
use Rattle.design.specs.Keys.{connection_in, netlist}
use Rattle.scratch.specs.kept.Kept.{input_of}
use Rattle.scratch.proofs.wiring.Cell.of.Given as goal

-- the inputs so far
abbrev pub invariant-loop-terminal : goal.invariant-loop-terminal
invariant-loop-terminal l = l.inputs.items ≡ map (λ terminal. input_of (netlist l.design) (connection_in l.design.nets terminal)) (take l.terminal-index l.terminals)
