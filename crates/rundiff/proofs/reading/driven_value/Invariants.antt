use Rattle.std.proofs.Common.{◌≡◌, map, take, Some, option_map}
use Rattle.gatestep.specs.Step.{due}
use Rattle.catalog.specs.kept.Catalog.{place_of}
use Rattle.design.specs.Keys.{netlist}
use Rattle.scratch.specs.Run.{state_before}
use Rattle.rundiff.specs.kept.Places.{gate_at}
use Rattle.rundiff.proofs.reading.driven_value.Given as goal

-- the current values of the drivers so far
abbrev pub invariant-loop-driver : goal.invariant-loop-driver
invariant-loop-driver g l =
    map (λ v. Some v) l.values.items
    ≡ map (λ key. option_map (λ place. (due (state_before g.S.Stepper.answer (netlist l.former.new.now) l.t (gate_at (netlist l.former.new.now) place)) l.t).current) (place_of l.former.new.now.gates key)) (take l.driver-index l.drivers)
