-- Waves: timelines of values, which stand until the next change (IEEE 1364-2005, 18.2.3, dumps changes alone).
use Rattle.std.specs.Prelude.{ℕ, List}
use Rattle.fourstate.specs.declared.value.Value.{Value}
use Rattle.fourstate.specs.declared.value.Value.TheVariants.{Unknown}
use Rattle.fourstate.specs.Values.{same_value}
use Rattle.waveform.specs.Timelines.{changes_below, value_by}
use Rattle.waveform.specs.Entries.{standing}

-- a net's changes at the moments below n: t = 0, and each t at which the value differs from that at t - 1
abbrev pub wave_changes_below : (ℕ → Value) → ℕ → List (ℕ × Value)
wave_changes_below f n = changes_below same_value standing f n

-- the value at t by a list of changes, x where none is at t or before
abbrev pub wave_at : List (ℕ × Value) → ℕ → Value
wave_at entries t = value_by standing Unknown entries t
