-- Why a step gave no answers.
use Rattle.std.specs.Prelude.{Bool, true, false, Result, Ok, Err}
use Rattle.gatestep.specs.declared.fault.StepFault.{StepFault}
use Rattle.gatestep.specs.declared.fault.StepFault.TheVariants.{OutOfMemory, WorkerLost}

-- the step lost a worker
abbrev pub is_lost : Result (Unit {0}) StepFault → Bool
is_lost (Err WorkerLost) = true
is_lost (Err OutOfMemory) = false
is_lost (Ok _) = false
