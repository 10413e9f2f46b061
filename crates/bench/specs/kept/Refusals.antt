-- The refusal of a commit, by the fault of its edits or of its stepper.
use Rattle.std.specs.Prelude.{◌≡◌, ◌≢◌, ℕ}
use Rattle.gatestep.specs.declared.fault.StepFault.{StepFault}
use Rattle.gatestep.specs.declared.fault.StepFault.TheVariants as step
use Rattle.edits.specs.declared.fault.EditFault.{EditFault}
use Rattle.edits.specs.declared.fault.EditFault.TheVariants as edit
use Rattle.bench.specs.declared.fault.CommitFault.{CommitFault}
use Rattle.bench.specs.declared.fault.CommitFault.TheVariants as commit

-- the fault of a stepper as that of a commit
abbrev pub refusal_of : StepFault → CommitFault
refusal_of step.OutOfMemory = commit.OutOfMemory
refusal_of step.WorkerLost = commit.WorkerLost

-- the fault of a commit whose edit at this place has this fault
abbrev pub IsRefusal : ℕ → EditFault → CommitFault → Type 0
IsRefusal place fault (commit.Edit p f) = (p ≡ place) × (f ≡ fault) × (fault ≢ edit.OutOfMemory)
IsRefusal place fault commit.OutOfMemory = fault ≡ edit.OutOfMemory
IsRefusal place fault commit.WorkerLost = ⊥
