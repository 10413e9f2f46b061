-- The refusal of a commit as a reply says it.
use Rattle.std.specs.Prelude.{◌≡◌, ◌⊎◌, List, IsOk, Err}
use Rattle.edits.specs.declared.edit.Edit.{Edit}
use Rattle.edits.specs.declared.fault.EditFault.TheVariants.{OutOfMemory}
use Rattle.bench.specs.declared.fault.CommitFault.{CommitFault}
use Rattle.bench.specs.declared.fault.CommitFault.TheVariants as commit
use Rattle.session.specs.declared.replies.refusal.Refusal.{Refusal}
use Rattle.session.specs.declared.replies.refusal.Refusal.TheVariants as refusal
use Rattle.session.specs.Standing.{SessionState}
use Rattle.session.specs.Steps.{commit_step}

-- a commit's fault as a reply says it
abbrev pub refusal_of : CommitFault → Refusal
refusal_of (commit.Edit place fault) = refusal.Edit fault
refusal_of commit.OutOfMemory = refusal.Edit OutOfMemory
refusal_of commit.WorkerLost = refusal.WorkerLost

-- the same as of a command, of a commit of these edits
abbrev pub MayRefuseCommit : SessionState → List Edit → Refusal → Type 0
MayRefuseCommit s edits (refusal.Edit fault) = (commit_step s edits ≡ Err (refusal.Edit fault)) ⊎ (fault ≡ OutOfMemory)
MayRefuseCommit s edits refusal.WorkerLost = IsOk (commit_step s edits)
MayRefuseCommit s edits r = ⊥
