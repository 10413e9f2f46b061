-- Why a run could not be made.
use Rattle.std.specs.Prelude.{◌≡◌, ◌+◌, ℕ, Bool, true, false, Result, Ok, Err, if◌then◌else◌}
use Rattle.gatestep.specs.declared.fault.StepFault.{StepFault}
use Rattle.gatestep.specs.declared.fault.StepFault.TheVariants.{OutOfMemory, WorkerLost}

-- a worker was lost
abbrev pub loses_a_worker : {A : Type 0} → Result A StepFault → Bool
loses_a_worker (Err WorkerLost) = true
loses_a_worker (Err OutOfMemory) = false
loses_a_worker (Ok x) = false

-- a worker was lost exactly where the stepper counts one step more that lost one
abbrev pub CountsLoss : {A : Type 0} → (losses losses_now : ℕ) → Result A StepFault → Type 0
CountsLoss losses losses_now result = losses_now ≡ losses + (if loses_a_worker result then 1 else 0)
