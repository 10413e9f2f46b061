-- What editors, a desk, receipts and the parts of a hub are seen as (own).
use Rattle.std.specs.Prelude.{◌≡◌, ◌↔◌, ℕ, ◌+◌, Bool, IsTrue, List, Result, Ok, Err}
use Rattle.gatestep.specs.Step.{Evaluation}
use Rattle.edits.specs.declared.edit.Edit.{Edit}
use Rattle.bench.specs.Benches.{SnapshotRecord}
use Rattle.bench.specs.declared.fault.CommitFault.{CommitFault}
use Rattle.hubcore.specs.Lists.{EntryRecord, StartsWith}
use Rattle.hub.specs.Commits.{IsReply, count_of, logged, snapshot_after}

-- an editor: its number, how many of its commits were accepted, and the commits of which its last receipt told
pub record EditorRecord : Type 0 where
  pub number : ℕ
  pub count : ℕ
  pub told : List EntryRecord

abbrev pub editor_of : ℕ → ℕ → List EntryRecord → EditorRecord
editor_of number count told = record { number = number; count = count; told = told }

-- the editor once a commit of it was answered so, by a receipt that told of these commits
abbrev pub answered : EditorRecord → Result ℕ CommitFault → List EntryRecord → EditorRecord
answered editor (Ok version) told = editor_of editor.number (editor.count + 1) told
answered editor (Err fault) told = editor_of editor.number editor.count told

-- the accepted commits, those of them that are published, all that the stepper was asked, each task with its moment, and how many
-- of its steps lost a worker
pub record DeskRecord : Type 0 where
  pub log : List EntryRecord
  pub shown : List EntryRecord
  pub asked : List (Evaluation × ℕ)
  pub losses : ℕ

-- the reply to a commit, whether all accepted commits are published then, and which are
pub record ReceiptRecord : Type 0 where
  pub reply : Result ℕ CommitFault
  pub shown : Bool
  pub told : List EntryRecord

-- the log that a submit found begins with the commits of which the editor's last receipt told, and so does what the next one tells: it
-- goes on exactly where the last one ended
pub record GoesOn (log before told : List EntryRecord) : Type 0 where
  pub found : StartsWith log before
  pub begins : StartsWith told before

-- what a submit says where it found this log
pub record FoundLog (from : SnapshotRecord) (editor : EditorRecord) (edits : List Edit) (receipt : ReceiptRecord) (log : List EntryRecord) : Type 0 where
  pub own : count_of editor.number log ≡ editor.count
  pub reply : IsReply (snapshot_after from log) edits receipt.reply
  pub told : StartsWith (logged log editor.number edits receipt.reply) receipt.told
  pub shown : IsTrue receipt.shown ↔ (receipt.told ≡ logged log editor.number edits receipt.reply)
  pub goes_on : GoesOn log editor.told receipt.told

-- some log was found, which has as many commits of this editor as were accepted
abbrev pub FoundSomeLog : SnapshotRecord → EditorRecord → List Edit → ReceiptRecord → Type 0
FoundSomeLog from editor edits receipt = (log : List EntryRecord) × FoundLog from editor edits receipt log
