use Rattle.std.proofs.Common.{◌≡◌, map, take, suc}
use Rattle.design.specs.Keys.{netlist}
use Rattle.scratch.specs.kept.Recorded.{recorded_below}
use Rattle.scratch.proofs.resuming.copy_waves.Given as goal

-- what is copied of the waves of the nets so far
abbrev pub invariant-loop-place : goal.invariant-loop-place
invariant-loop-place g l =
    let d = netlist l.design in l.waves.items ≡ map (λ n. recorded_below g.S.Stepper.answer d n (suc d.horizon)) (take l.place d.nets)
