-- What tasks keep, and what a step and the laws of its answer speak of.
use Rattle.std.specs.Prelude.{◌≤◌, ℕ}
use Rattle.std.specs.Option.{ForSome}
use Rattle.gatestep.specs.Step.{State, Evaluation}

-- what is pending is for the moment t or a later one
abbrev pub PendingFrom : ℕ → State → Type 0
PendingFrom t s = ForSome s.pending (λ event. t ≤ event.1)

-- nothing pending in the task is for a moment before t
abbrev pub IsReady : ℕ → Evaluation → Type 0
IsReady t e = PendingFrom t e.state
