-- Why an opening or a commit may be refused.
use Rattle.std.specs.Prelude.{◌≡◌, ◌+◌, ℕ, Bool, true, false, IsOk, List, Result, Ok, Err}
use Rattle.gatestep.specs.declared.fault.StepFault.{StepFault}
use Rattle.gatestep.specs.declared.fault.StepFault.TheVariants as step
use Rattle.edits.specs.declared.edit.Edit.{Edit}
use Rattle.bench.specs.declared.fault.CommitFault.{CommitFault}
use Rattle.bench.specs.declared.fault.CommitFault.TheVariants as commit
use Rattle.bench.specs.Benches.{SnapshotRecord}
use Rattle.bench.specs.Commits.{commit_of}

-- a commit of these edits to this snapshot may be refused for the first edit that the design refuses, because memory ran out,
-- or because a worker was lost over a design that accepts the edits
abbrev pub MayRefuse : SnapshotRecord → List Edit → CommitFault → Type 0
MayRefuse s edits (commit.Edit place fault) = commit_of s.version s.design edits ≡ Err (place, fault)
MayRefuse s edits commit.OutOfMemory = Unit {0}
MayRefuse s edits commit.WorkerLost = IsOk (commit_of s.version s.design edits)

-- where an opening is refused because a worker was lost, the stepper that is left counts one loss more than before; of want of
-- memory nothing is said
abbrev pub LeavesBehind : {S : Type 0} → (losses_of : S → ℕ) → ℕ → StepFault → Type 0
LeavesBehind {S} losses_of losses step.WorkerLost = (left : S) × (losses_of left ≡ losses + 1)
LeavesBehind {S} losses_of losses step.OutOfMemory = Unit {0}

-- a commit lost a worker
abbrev pub loses_a_worker : {A : Type 0} → Result A CommitFault → Bool
loses_a_worker (Err commit.WorkerLost) = true
loses_a_worker (Err _) = false
loses_a_worker (Ok version) = false
