use Rattle.std.proofs.Common.{◌≡◌, map, take}
use Rattle.std.specs.List.{zip}
use Rattle.design.specs.Keys.{netlist}
use Rattle.scratch.specs.kept.Kept.{net_from}
use Rattle.scratch.proofs.moment.find_values.Given as goal

-- the values of the nets so far
abbrev pub invariant-loop-place : goal.invariant-loop-place
invariant-loop-place l =
    l.out.items ≡ map (λ p. net_from l.currents l.t p.0 p.1) (take l.place (zip (netlist l.design).nets (map (λ places. places.items) l.wiring.drivers.items)))
