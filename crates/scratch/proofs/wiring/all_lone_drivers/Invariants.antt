use Rattle.std.proofs.Common.{◌≡◌, map, take}
use Rattle.design.specs.Keys.{netlist}
use Rattle.scratch.specs.kept.Kept.{lone_driver}
use Rattle.scratch.proofs.wiring.all_lone_drivers.Given as goal

-- the lone drivers of the nets so far
abbrev pub invariant-loop-place : goal.invariant-loop-place
invariant-loop-place l = l.lone.items ≡ map (lone_driver (netlist l.design)) (take l.place (netlist l.design).nets)
