use Rattle.std.proofs.Common.{◌≡◌, Some, map, take}
use Rattle.std.specs.List.{position_from}
use Rattle.design.specs.Keys.{netlist}
use Rattle.design.specs.Names.{same_name}
use Rattle.scratch.proofs.wiring.all_outputs.Given as goal

-- the outputs of the gates so far
abbrev pub invariant-loop-place : goal.invariant-loop-place
invariant-loop-place l =
    map (λ net. Some net) l.all.items ≡ map (λ g. position_from (λ n. same_name n.name g.output) 0 (netlist l.design).nets) (take l.place (netlist l.design).gates)
