use Rattle.std.proofs.Common.{◌≡◌, ◌<◌, ℕ, option_map, slice_get}
use Rattle.gatestep.specs.Step.{Evaluation, State, advance}
use Rattle.design.specs.Keys.{netlist}
use Rattle.scratch.specs.Run.{wave_of}
use Rattle.scratch.specs.kept.Run.{IsRun}
use Rattle.racer.proofs.tally.has_waves_of.Given as goal

abbrev pub invariant-nets : goal.invariant-nets
invariant-nets l = (answer : Evaluation → ℕ → State) → IsRun answer l.fn.design l.fn.run → (k : ℕ) → k < l.place
    → option_map (wave_of advance (netlist l.fn.design)) (slice_get (netlist l.fn.design).nets k) ≡ option_map (wave_of answer (netlist l.fn.design)) (slice_get (netlist l.fn.design).nets k)
