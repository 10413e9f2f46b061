-- What is published for viewers (own).
use Rattle.std.specs.Prelude.{List, fold}
use Rattle.logbook.specs.Pages.{Book}
use Rattle.bench.specs.Benches.{SnapshotRecord}
use Rattle.hubcore.specs.Lists.{EntryRecord}
use Rattle.hub.specs.Commits.{snapshot_after}

-- the snapshot that a hub began with, the book of its commits, and those before the published snapshot
pub record IssueRecord : Type 0 where
  pub origin : SnapshotRecord
  pub book : Book
  pub log : List EntryRecord

abbrev pub issue_of : SnapshotRecord → Book → List EntryRecord → IssueRecord
issue_of origin book log = record { origin = origin; book = book; log = log }

-- the published snapshot
abbrev pub published : IssueRecord → SnapshotRecord
published issue = snapshot_after issue.origin issue.log

-- the last of these issues, or the first one where there are none
abbrev pub last_of : IssueRecord → List IssueRecord → IssueRecord
last_of first issues = fold (λ _ next. next) first issues
