use Rattle.std.proofs.Common.{◌≡◌, map, take}
use Rattle.design.specs.Keys.{netlist}
use Rattle.scratch.specs.kept.Kept.{driven_kind}
use Rattle.scratch.proofs.wiring.all_kinds.Given as goal

-- the kinds of the nets so far
abbrev pub invariant-loop-place : goal.invariant-loop-place
invariant-loop-place l = l.kinds.items ≡ map driven_kind (take l.place (netlist l.design).nets)
