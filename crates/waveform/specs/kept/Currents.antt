-- What a driver gives, by its trace.
use Rattle.std.specs.Prelude.{◌≡◌, ◌<◌, ◌≤◌, ℕ, suc, List}
use Rattle.fourstate.specs.declared.value.Value.{Value}
use Rattle.gatestep.specs.Step.{State, due}
use Rattle.waveform.specs.kept.Changes.{state_at}

-- what the driver of these entries gives at a moment
abbrev pub currents : List (ℕ × State) → ℕ → Value
currents entries t = (state_at entries t).current

-- below `end` a driver gives at each moment what its state at the moment before comes to: what is pending, once it is due, or
-- else what it gave
abbrev pub GoesOn : List (ℕ × State) → ℕ → Type 0
GoesOn entries end = (t : ℕ) → suc t < end → currents entries (suc t) ≡ (due (state_at entries t) (suc t)).current

-- at the moment before m and from then on, below n, this is what the state comes to
abbrev pub Gives : (ℕ → Value) → State → (m n : ℕ) → Type 0
Gives f s m n = (u : ℕ) → m ≤ suc u → u < n → f u ≡ (due s u).current
