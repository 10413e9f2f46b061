-- How far the wave of each net is recorded while a run goes on.
use Rattle.std.specs.Prelude.{ℕ, List}
use Rattle.std.specs.Option.{option_map_or}
use Rattle.fourstate.specs.declared.value.Value.{Value}
use Rattle.gatestep.specs.Step.{State, Evaluation}
use Rattle.design.specs.Netlist.{NetEntry, Netlist}
use Rattle.waveform.specs.Changes.{wave_changes_below}
use Rattle.scratch.specs.kept.Kept.{lone_driver}
use Rattle.scratch.specs.Run.{value}

-- the moments below n are done: the wave of a net to which one driver alone gives its value has moment 0, since the others are
-- found from the driver's trace at the end; that of another net has all of them
abbrev pub recorded_end : Netlist → NetEntry → ℕ → ℕ
recorded_end d x n = option_map_or (λ k. 1) (lone_driver d x) n

-- the changes of a net that are recorded
abbrev pub recorded_below : (Evaluation → ℕ → State) → Netlist → NetEntry → ℕ → List (ℕ × Value)
recorded_below answer d x n = wave_changes_below (value answer d x) (recorded_end d x n)
