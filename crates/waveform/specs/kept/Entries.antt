-- Which states of a driver can be stored.
use Rattle.std.specs.Prelude.{ℕ, ◌+◌, ◌<◌, ◌≤◌}
use Rattle.std.specs.Option.{ForSome}
use Rattle.fourstate.specs.declared.limits.TheConstants.{MAX_DELAY}
use Rattle.gatestep.specs.Step.{State}
use Rattle.waveform.specs.declared.times.TheConstants.{TIME_END}

-- a state can be stored at t: t can, and what is pending lies after t, and at most the greatest delay after it
abbrev pub CanStore : ℕ → State → Type 0
CanStore t s = (t < TIME_END) × ForSome s.pending (λ event. (t < event.1) × (event.1 ≤ t + MAX_DELAY))
