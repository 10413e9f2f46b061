-- What an editor of a hub has submitted.
use Rattle.std.specs.Prelude.{◌≡◌, List, [], ◌∷◌}
use Rattle.edits.specs.declared.edit.Edit.{Edit}
use Rattle.bench.specs.Benches.{SnapshotRecord}
use Rattle.hub.specs.Desks.{EditorRecord, FoundSomeLog, ReceiptRecord, answered}

-- an editor of a hub that began with a snapshot has submitted these commits, in order, and is this one then
abbrev pub HasSubmitted : SnapshotRecord → EditorRecord → List (List Edit) → EditorRecord → Type 0
HasSubmitted from editor [] now = now ≡ editor
HasSubmitted from editor (edits ∷ rest) now =
    (receipt : ReceiptRecord) × FoundSomeLog from editor edits receipt × HasSubmitted from (answered editor receipt.reply receipt.told) rest now
