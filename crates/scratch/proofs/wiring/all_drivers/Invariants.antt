use Rattle.std.proofs.Common.{◌≡◌, map, take}
use Rattle.design.specs.Keys.{netlist}
use Rattle.design.specs.kept.Places.{driver_places}
use Rattle.scratch.proofs.wiring.all_drivers.Given as goal

-- the drivers of the nets so far
abbrev pub invariant-loop-place : goal.invariant-loop-place
invariant-loop-place l =
    map (λ places. places.items) l.all.items ≡ map (λ n. driver_places (netlist l.design).gates n.name) (take l.place (netlist l.design).nets)
