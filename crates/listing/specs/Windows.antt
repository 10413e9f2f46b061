-- A part of a wave, from one moment to another (own).
use Rattle.std.specs.Prelude.{ℕ, List, ◌∷◌}
use Rattle.fourstate.specs.declared.value.Value.{Value}
use Rattle.waveform.specs.Changes.{wave_at}
use Rattle.waveform.specs.Timelines.{entries_after, entries_until}

-- the changes after a moment, up to and with another one
abbrev pub changes_between : List (ℕ × Value) → (from to : ℕ) → List (ℕ × Value)
changes_between changes from to = entries_after (entries_until changes to) from

-- the value at the first moment, and then the changes
abbrev pub window : List (ℕ × Value) → (from to : ℕ) → List (ℕ × Value)
window changes from to = (from, wave_at changes from) ∷ changes_between changes from to
