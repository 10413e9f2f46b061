-- What the commits of editors make of the snapshot that a hub began with (own).
use Rattle.std.specs.Prelude.{◌≡◌, ℕ, ◌+◌, List, [], ◌∷◌, ◌++◌, length, Result, Ok, Err, IsOk, IfErr, IfOk}
use Rattle.gatestep.specs.Step.{Evaluation}
use Rattle.edits.specs.declared.edit.Edit.{Edit}
use Rattle.bench.specs.Benches.{SnapshotRecord, snapshot_of}
use Rattle.bench.specs.Commits.{after, commit_of, committed}
use Rattle.bench.specs.Refusals.{MayRefuse}
use Rattle.bench.specs.Work.{AskedByAccepted, AskedByRefused}
use Rattle.bench.specs.declared.fault.CommitFault.{CommitFault}
use Rattle.hubcore.specs.Lists.{EntryRecord, commits_of, entry, lists_of}

-- the snapshot after these commits
abbrev pub snapshot_after : SnapshotRecord → List EntryRecord → SnapshotRecord
snapshot_after from log = snapshot_of (from.version + length log) (after from.design (lists_of log))

-- how many of these commits bear the number of an editor
abbrev pub count_of : ℕ → List EntryRecord → ℕ
count_of editor log = length (commits_of editor log)

-- the log gains an accepted commit at its end, under the number of its editor
abbrev pub logged : List EntryRecord → ℕ → List Edit → Result ℕ CommitFault → List EntryRecord
logged log editor edits (Ok version) = log ++ entry editor edits ∷ []
logged log editor edits (Err fault) = log

-- a commit of these edits to a snapshot may be accepted so
abbrev pub IsAccepted : SnapshotRecord → List Edit → ℕ → Type 0
IsAccepted s edits version = IsOk (commit_of s.version s.design edits) × (version ≡ s.version + 1)

-- the reply is one to these edits at this snapshot
pub record IsReply (s : SnapshotRecord) (edits : List Edit) (reply : Result ℕ CommitFault) : Type 0 where
  pub accepted : IfOk reply (IsAccepted s edits)
  pub refused : IfErr reply (MayRefuse s edits)

-- a stepper was asked for a commit of these edits to a snapshot, answered so: an accepted one asks for the run of its design, a
-- refused one for a part of that, or nothing
abbrev pub AskedByCommit : SnapshotRecord → List Edit → Result ℕ CommitFault → (before now : List (Evaluation × ℕ)) → Type 0
AskedByCommit s edits (Ok version) before now = AskedByAccepted s.design (committed s.design edits) before now
AskedByCommit s edits (Err fault) before now = AskedByRefused s.design (commit_of s.version s.design edits) before now
