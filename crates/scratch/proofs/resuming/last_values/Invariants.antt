use Rattle.std.proofs.Common.{◌≡◌, ◌-◌, map, take, suc}
use Rattle.design.specs.Keys.{netlist}
use Rattle.scratch.specs.Run.{value}
use Rattle.scratch.proofs.resuming.last_values.Given as goal

-- the values of the nets so far
abbrev pub invariant-loop-place : goal.invariant-loop-place
invariant-loop-place g l =
    let d = netlist l.design in l.values.items ≡ map (λ n. value g.S.Stepper.answer d n (suc d.horizon - 1)) (take l.place d.nets)
