-- What every task keeps, and when what is pending is due.
use Rattle.std.specs.Prelude.{◌<◌, ℕ, IsTrue, length}
use Rattle.std.specs.Option.{ForSome}
use Rattle.fourstate.specs.kept.Delays.{AreDelays}
use Rattle.fourstate.specs.Gates.{takes_inputs}
use Rattle.gatestep.specs.Step.{State, Evaluation}

-- what every task keeps: its inputs fit its kind, and its delays are within the limits
pub record IsTask (e : Evaluation) : Type 0 where
  pub inputs_fit : IsTrue (takes_inputs e.kind (length e.inputs))
  pub delays_in_range : AreDelays e.delays

-- what is pending is for a moment before t
abbrev pub PendingBefore : ℕ → State → Type 0
PendingBefore t s = ForSome s.pending (λ event. event.1 < t)

-- nothing is due at t or before
abbrev pub NothingDue : ℕ → State → Type 0
NothingDue t s = ForSome s.pending (λ event. t < event.1)

-- the same gate with the same inputs, in another state
abbrev pub again : Evaluation → State → Evaluation
again e s = record { kind = e.kind; delays = e.delays; state = s; inputs = e.inputs }
