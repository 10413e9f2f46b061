-- How long a gate takes (IEEE 1364-2005, 7.14).
use Rattle.std.specs.Prelude.{Bool, true, false, ℕ, ◌==◌, ◌&&◌, ◌||◌, min, nat_lt, Option, Some, None, unwrap_or}
use Rattle.std.specs.Option.{option_map_or}
use Rattle.fourstate.specs.declared.delay_times.DelayTimes.{DelayTimes}
use Rattle.fourstate.specs.declared.limits.TheConstants.{MAX_DELAY}
use Rattle.fourstate.specs.declared.value.Value.{Value}
use Rattle.fourstate.specs.declared.value.Value.TheVariants.{Zero, One, Unknown, HighZ}

-- a gate's delays, in time units, where two are given: a rise and a fall
abbrev pub delay_times : ℕ → ℕ → DelayTimes
delay_times rise fall = record { rise = rise; fall = fall; off = None }

-- a gate's delays where one is given, which is that of each change
abbrev pub uniform_delays : ℕ → DelayTimes
uniform_delays delay = delay_times delay delay

-- these delays with a fall given behind the rise
abbrev pub with_fall : DelayTimes → ℕ → DelayTimes
with_fall delays fall = record { rise = delays.rise; fall = fall; off = delays.off }

-- these delays with a turn-off delay given behind the fall
abbrev pub with_off : DelayTimes → ℕ → DelayTimes
with_off delays off = record { rise = delays.rise; fall = delays.fall; off = Some off }

-- the lesser of rise and fall
abbrev pub lesser : DelayTimes → ℕ
lesser delays = min delays.rise delays.fall

-- the delay to a new value: rise to 1, fall to 0; to z the turn-off delay where one is given, else the lesser of rise and fall; to x
-- the least of those given
abbrev pub delay_to : DelayTimes → Value → ℕ
delay_to delays One = delays.rise
delay_to delays Zero = delays.fall
delay_to delays HighZ = unwrap_or delays.off (lesser delays)
delay_to delays Unknown = option_map_or (min (lesser delays)) delays.off (lesser delays)

-- some delay is zero
abbrev pub has_zero : DelayTimes → Bool
has_zero delays = delays.rise == 0 || delays.fall == 0 || option_map_or (λ off. off == 0) delays.off false

-- some delay is over the limit
abbrev pub exceeds_limit : DelayTimes → Bool
exceeds_limit delays = nat_lt MAX_DELAY delays.rise || nat_lt MAX_DELAY delays.fall || option_map_or (nat_lt MAX_DELAY) delays.off false

-- both have no turn-off delay, or the same one
abbrev pub same_off : Option ℕ → Option ℕ → Bool
same_off None None = true
same_off (Some a) (Some b) = a == b
same_off a b = false

-- the delays are the same, each of them
abbrev pub same_delays : DelayTimes → DelayTimes → Bool
same_delays a b = a.rise == b.rise && a.fall == b.fall && same_off a.off b.off
