-- What the delays of a gate keep: each is within the limits.
use Rattle.std.specs.Prelude.{ℕ, ◌≤◌, IfSome}
use Rattle.fourstate.specs.declared.delay_times.DelayTimes.{DelayTimes}
use Rattle.fourstate.specs.declared.limits.TheConstants.{MAX_DELAY}

-- a delay is within the limits
abbrev pub IsDelay : ℕ → Type 0
IsDelay n = (1 ≤ n) × (n ≤ MAX_DELAY)

-- each of a gate's delays is within the limits
pub record AreDelays (delays : DelayTimes) : Type 0 where
  pub rise : IsDelay delays.rise
  pub fall : IsDelay delays.fall
  pub off : IfSome delays.off IsDelay
