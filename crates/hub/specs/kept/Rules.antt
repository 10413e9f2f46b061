-- The rule of what is published. A seat, that of the writer or of a viewer, knows nothing yet or what was published at a time; what is
-- published only grows, so it begins with all that any seat knows (own).
use Rattle.std.specs.Prelude.{◌≡◌, ℕ, List, Option, Some, None}
use mathlib.Core.Option.{some}
use lib.ListN.{get_elem?}
use Rattle.logbook.specs.Pages.{Book}
use Rattle.bench.specs.Benches.{SnapshotRecord}
use Rattle.hubcore.specs.Lists.{EntryRecord, StartsWith}
use Rattle.hub.specs.kept.Issues.{IssueRecord, issue_of}

-- the second issue was published with the first one or later
pub record Follows (old new : IssueRecord) : Type 0 where
  pub log : StartsWith new.log old.log
  pub origin : new.origin ≡ old.origin
  pub book : new.book ≡ old.book

-- what a seat knows was published with this issue or before
abbrev pub Fits : IssueRecord → Option IssueRecord → Type 0
Fits now (Some old) = Follows old now
Fits now None = Unit {0}

-- the rule: so it is for each seat
abbrev pub Keeps : IssueRecord → List (Option IssueRecord) → Type 0
Keeps now views = (seat : ℕ) (view : Option IssueRecord) → get_elem? views seat ≡ some view → Fits now view

-- a step after which a seat knows what is published then; it begins with what the seat knew
abbrev pub Saw : Option IssueRecord → IssueRecord → IssueRecord → Option IssueRecord → Type 0
Saw before old now after = (after ≡ Some now) × Fits now before

-- who knows nothing is told what another seat knows
abbrev pub informed : Option IssueRecord → Option IssueRecord → Option IssueRecord
informed (Some own) told = Some own
informed None told = told

-- what a seat knows is of the hub with this opening snapshot and this book
abbrev pub IsOf : SnapshotRecord → Book → Option IssueRecord → Type 0
IsOf origin book view = (log : List EntryRecord) × (view ≡ Some (issue_of origin book log))
