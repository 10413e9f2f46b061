-- What is in the places of jobs once they are done.
use Rattle.std.specs.Prelude.{◌≡◌, ℕ, List, Option, Some, None, IfOk, OnOk, OnErr}
use Rattle.gatestep.specs.Jobs.{IsBeginning}
use Rattle.gatestep.specs.Step.{Evaluation}
use Rattle.gatestep.specs.declared.job.Outcome.{Outcome}

-- an outcome is one that a job may leave, by what the job gives and what it asks
pub record Leaves {J O : Type 0} (gives : J → O → Type 0) (work : J → List (Evaluation × ℕ)) (job : J) (outcome : Outcome O) : Type 0 where
  pub output : IfOk outcome.output (gives job)
  pub asked : OnOk outcome.output (outcome.record.asked ≡ work job)
  pub part : OnErr outcome.output (IsBeginning outcome.record.asked (work job))
  pub lost : outcome.record.losses ≡ 0

-- the place of a job has an outcome that the job may leave
abbrev pub IsDone : {J O : Type 0} → (J → O → Type 0) → (J → List (Evaluation × ℕ)) → J → Option (Outcome O) → Type 0
IsDone gives work job None = ⊥
IsDone gives work job (Some outcome) = Leaves gives work job outcome
