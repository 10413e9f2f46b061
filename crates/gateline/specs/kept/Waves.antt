-- The inputs of a gate, by waves.
use Rattle.std.specs.Prelude.{ℕ, List, map}
use Rattle.fourstate.specs.declared.value.Value.{Value}
use Rattle.scratch.specs.declared.wiring.Input.{Input}
use Rattle.scratch.specs.kept.Kept.{input_value}
use Rattle.waveform.specs.Changes.{wave_at}

-- the value of an input at t
abbrev pub input_at : List (List (ℕ × Value)) → Input → ℕ → Value
input_at waves input t = input_value (map (λ wave. wave_at wave t) waves) input

-- the values of the inputs at t
abbrev pub inputs_by : List (List (ℕ × Value)) → List Input → ℕ → List Value
inputs_by waves inputs t = map (λ input. input_at waves input t) inputs

-- each input as a function of time
abbrev pub input_functions : List (List (ℕ × Value)) → List Input → List (ℕ → Value)
input_functions waves inputs = map (input_at waves) inputs
