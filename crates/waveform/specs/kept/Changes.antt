-- Traces: the entries of a driver's state, and the state at a moment.
use Rattle.std.specs.Prelude.{ℕ, List}
use Rattle.gatestep.specs.Step.{State, initial, due}
use Rattle.waveform.specs.Timelines.{changes_below, value_by}
use Rattle.waveform.specs.Entries.{same_state}

-- the entries of a driver's state at the moments below n: t = 0, and each t at which the state is another than the one at
-- t - 1 with its due event current
abbrev pub trace_below : (ℕ → State) → ℕ → List (ℕ × State)
trace_below f n = changes_below same_state due f n

-- the state at t by a list of entries, the initial one where none is at t or before
abbrev pub state_at : List (ℕ × State) → ℕ → State
state_at entries t = value_by due initial entries t
