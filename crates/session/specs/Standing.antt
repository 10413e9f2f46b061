-- How a session stands (own).
use Rattle.std.specs.Prelude.{Bool, ℕ, List, [], Option, None}
use Rattle.design.specs.Netlist.{Netlist}
use Rattle.edits.specs.declared.edit.Edit.{Edit}
use Rattle.bench.specs.Benches.{SnapshotRecord, snapshot_of}

-- whether the questions of tools are known; the version and the design that the last commit left; the edits of a batch, inside
-- one; and the snapshots that are held, each with its name
pub record SessionState : Type 0 where
  pub tools : Bool
  pub present : SnapshotRecord
  pub batch : Option (List Edit)
  pub held : List (List ℕ × SnapshotRecord)

-- at the opening
abbrev pub opened_with : Bool → Netlist → SessionState
opened_with tools d = record { tools = tools; present = snapshot_of 0 d; batch = None; held = [] }

-- the same state but for one part

abbrev pub with_present : SessionState → SnapshotRecord → SessionState
with_present s snapshot = record { tools = s.tools; present = snapshot; batch = s.batch; held = s.held }

abbrev pub with_batch : SessionState → Option (List Edit) → SessionState
with_batch s edits = record { tools = s.tools; present = s.present; batch = edits; held = s.held }

abbrev pub with_held : SessionState → List (List ℕ × SnapshotRecord) → SessionState
with_held s held = record { tools = s.tools; present = s.present; batch = s.batch; held = held }
