-- Commits one after another, accepted and refused (own).
use Rattle.std.specs.Prelude.{◌≡◌, ℕ, ◌+◌, map, List, [], ◌∷◌, Result, Ok, Err}
use Rattle.std.specs.List.{filter}
use Rattle.std.specs.Result.{is_ok}
use Rattle.edits.specs.declared.edit.Edit.{Edit}
use Rattle.bench.specs.declared.fault.CommitFault.{CommitFault}
use Rattle.bench.specs.Benches.{SnapshotRecord}
use Rattle.bench.specs.Commits.{commit_of}

-- a commit of these edits with this answer leads from one snapshot to another: accepted, to the design that the edits make, one
-- version later; refused, for whatever cause, nowhere
abbrev pub Leads : SnapshotRecord → List Edit → Result ℕ CommitFault → SnapshotRecord → Type 0
Leads old edits (Ok version) new = (commit_of old.version old.design edits ≡ Ok new.design) × (new.version ≡ old.version + 1)
Leads old edits (Err fault) new = new ≡ old

-- so do these commits, one after another, each with its edits and its answer
abbrev pub LeadOn : SnapshotRecord → List (List Edit × Result ℕ CommitFault) → SnapshotRecord → Type 0
LeadOn first [] last = last ≡ first
LeadOn first (commit ∷ commits) last = (next : SnapshotRecord) × Leads first commit.0 commit.1 next × LeadOn next commits last

-- the edits of those commits that were accepted
abbrev pub accepted : List (List Edit × Result ℕ CommitFault) → List (List Edit)
accepted commits = map (λ commit. commit.0) (filter (λ commit. is_ok commit.1) commits)
