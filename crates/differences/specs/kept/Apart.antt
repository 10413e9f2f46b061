-- From which moment on two waves differ (own).
use Rattle.std.specs.Prelude.{not, ℕ, suc, nat_le, if◌then◌else◌, List, Option, None, Some}
use Rattle.std.specs.List.{find}
use Rattle.fourstate.specs.declared.value.Value.{Value}
use Rattle.fourstate.specs.Values.{same_value}
use Rattle.waveform.specs.Changes.{wave_at}
use Rattle.waveform.specs.Timelines.{moments}

-- the first moment up to `end` at which the waves of these changes have different values
abbrev pub first_apart : (xs ys : List (ℕ × Value)) → (end : ℕ) → Option ℕ
first_apart xs ys end = find (λ t. not (same_value (wave_at xs t) (wave_at ys t))) (moments (suc end))

-- a moment, if it is not after `end`
abbrev pub up_to : (end : ℕ) → Option ℕ → Option ℕ
up_to end None = None
up_to end (Some t) = if nat_le t end then Some t else None
