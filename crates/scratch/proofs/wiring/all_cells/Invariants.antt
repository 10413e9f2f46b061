use Rattle.std.proofs.Common.{◌≡◌, map, take}
use Rattle.design.specs.Keys.{netlist}
use Rattle.scratch.specs.kept.Kept.{cell_of}
use Rattle.scratch.proofs.wiring.all_cells.Given as goal

-- the cells so far
abbrev pub invariant-loop-place : goal.invariant-loop-place
invariant-loop-place l = l.cells.items ≡ map (cell_of (netlist l.design)) (take l.place (netlist l.design).gates)
