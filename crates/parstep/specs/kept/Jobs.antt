-- What is read of the places of jobs once they are done.
use Rattle.std.specs.Prelude.{◌≡◌, ℕ, List, [], Option, Some, None, Ok}
use Rattle.gatestep.specs.Step.{Evaluation}
use Rattle.gatestep.specs.declared.job.Outcome.{Outcome}

-- a place has an outcome in which no worker was lost
abbrev pub IsFilled : {O : Type 0} → Option (Outcome O) → Type 0
IsFilled None = ⊥
IsFilled (Some outcome) = outcome.record.losses ≡ 0

-- what was asked by the outcome in a place
abbrev pub asked_in : {O : Type 0} → Option (Outcome O) → List (Evaluation × ℕ)
asked_in None = []
asked_in (Some outcome) = outcome.record.asked

-- a place has this output
abbrev pub Holds : {O : Type 0} → Option (Outcome O) → O → Type 0
Holds None output = ⊥
Holds (Some outcome) output = outcome.output ≡ Ok output
