-- What editors and a desk keep, and what the log and the parts of a hub are seen as.
use Rattle.std.specs.Prelude.{◌≡◌, ℕ, ◌+◌, ◌<◌, ◌≤◌, ◌==◌, Bool, List, [], length, if◌then◌else◌}
use Rattle.gatestep.specs.Step.{Evaluation}
use Rattle.fourstate.specs.declared.unit.Magnitude.TheVariants.{One}
use Rattle.fourstate.specs.declared.unit.Unit.TheVariants.{Nanosecond}
use Rattle.design.specs.kept.Netlist.{empty_netlist}
use Rattle.bench.specs.Benches.{SnapshotRecord, snapshot_of}
use Rattle.hubcore.specs.Lists.{EntryRecord, StartsWith}
use Rattle.hub.specs.Commits.{count_of, snapshot_after}
use Rattle.hub.specs.kept.Histories.{HubBooks}
use Rattle.hub.specs.Desks.{DeskRecord}

-- of two numbers the one that belongs to this editor
abbrev pub of_number : ℕ → ℕ → ℕ → ℕ
of_number number first second = if number == 0 then first else second

-- an editor holds the whole share of its ledger, and its amount is the editor's count
pub record Owns (whole parts amount count : ℕ) : Type 0 where
  pub whole_is : parts ≡ whole
  pub some : 0 < parts
  pub amount_is : amount ≡ count

-- no editor was told of more commits than these
pub record AreToldWithin (shown : List EntryRecord) (first second : ℕ) : Type 0 where
  pub first_is : first ≤ length shown
  pub second_is : second ≤ length shown

abbrev pub desk_of : (log shown : List EntryRecord) → List (Evaluation × ℕ) → ℕ → DeskRecord
desk_of log shown asked losses = record { log = log; shown = shown; asked = asked; losses = losses }

-- the snapshot and the totals of both ledgers are those of the log, and what is published is a beginning of it
pub record IsKept (from present : SnapshotRecord) (log shown : List EntryRecord) (first second : ℕ) : Type 0 where
  pub present_is : present ≡ snapshot_after from log
  pub published : StartsWith log shown
  pub first_is : first ≡ count_of 0 log
  pub second_is : second ≡ count_of 1 log
  pub all : first + second ≡ length log

-- the accepted commits of a hub that has ended, and those of them that were published
pub record LogRecord : Type 0 where
  pub commits : List EntryRecord
  pub shown : Bool
  pub told : List EntryRecord

-- what a type is named by where nothing rests on the name
abbrev pub any_snapshot : SnapshotRecord
any_snapshot = snapshot_of 0 (empty_netlist [] (record { magnitude = One; unit = Nanosecond }))

abbrev pub any_book : HubBooks
any_book = record { history = record { number = 0; log_name = 0; cells_name = 0 }; first_told = 0; second_told = 0 }

-- what a hub can begin with: its snapshot, what its stepper was asked and lost, the book of its commits and the ledgers of what its
-- editors were told, the ledgers of both editors by their names and numbers of parts, and how many viewers it has
pub record PartsRecord : Type 0 where
  pub origin : SnapshotRecord
  pub asked : List (Evaluation × ℕ)
  pub losses : ℕ
  pub book : HubBooks
  pub first_name : ℕ
  pub first_parts : ℕ
  pub second_name : ℕ
  pub second_parts : ℕ
  pub viewers : ℕ
