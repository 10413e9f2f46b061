-- Which snapshots viewers hold, and which events may happen over a design (own).
use Rattle.std.specs.Prelude.{◌≡◌, ℕ, ◌+◌, List, [], ◌∷◌, length, take, Result, Ok, Err, IsOk}
use Rattle.edits.specs.declared.edit.Edit.{Edit}
use Rattle.bench.specs.Benches.{SnapshotRecord, snapshot_of}
use Rattle.bench.specs.Commits.{after, commit_of, committed}
use Rattle.bench.specs.declared.fault.CommitFault.{CommitFault}
use Rattle.bench.specs.declared.fault.CommitFault.TheVariants as commit
use Rattle.hubcore.specs.declared.event.Event.{Event}
use Rattle.hubcore.specs.declared.event.Event.TheVariants.{Submit, Show, Look, Learn, Release}
use Rattle.hubcore.specs.States.{CoreRecord}
use Rattle.hubcore.specs.Steps.{step}
use Rattle.hubcore.specs.kept.Steps.{taken}

-- the snapshot of a length: that of as many commits of the log, one after another, to an opening one
abbrev pub snapshot_at : SnapshotRecord → List (List Edit) → ℕ → SnapshotRecord
snapshot_at from log length = snapshot_of (from.version + length) (after from.design (take length log))

-- a snapshot accepts each commit of a log, one after another
abbrev pub Accepts : SnapshotRecord → List (List Edit) → Type 0
Accepts s [] = Unit {0}
Accepts s (edits ∷ log) = IsOk (commit_of s.version s.design edits) × Accepts (snapshot_of (s.version + 1) (committed s.design edits)) log

-- what a commit of these edits to a snapshot may be answered
abbrev pub IsAnswer : SnapshotRecord → List Edit → Result ℕ CommitFault → Type 0
IsAnswer s edits (Ok version) = IsOk (commit_of s.version s.design edits) × (version ≡ s.version + 1)
IsAnswer s edits (Err (commit.Edit place fault)) = commit_of s.version s.design edits ≡ Err (place, fault)
IsAnswer s edits (Err commit.OutOfMemory) = Unit {0}
IsAnswer s edits (Err commit.WorkerLost) = Unit {0}

-- an event may happen where editors began with this snapshot
abbrev pub IsLegal : SnapshotRecord → CoreRecord → Event → Type 0
IsLegal from s (Submit edits reply) = IsAnswer (snapshot_at from s.log (length s.log)) edits.items reply
IsLegal from s Show = Unit {0}
IsLegal from s (Look number) = Unit {0}
IsLegal from s (Learn number length) = Unit {0}
IsLegal from s (Release number length) = Unit {0}

-- these events may happen, one after another
abbrev pub AreLegal : SnapshotRecord → CoreRecord → List Event → Type 0
AreLegal from s [] = Unit {0}
AreLegal from s (event ∷ events) = IsLegal from s event × AreLegal from (taken s (step s event)) events
