-- The lines of an answer as they are written, or the cause for which there is none.
use Rattle.std.specs.Prelude.{◌≡◌, ◌<◌, ◌≤◌, ℕ, length, slice_get, List, Result, Ok, Err}
use Rattle.devices.specs.Outgoing.{Adds, Outgoing}
use Rattle.design.specs.Netlist.{NetEntry, net_named}
use Rattle.edits.specs.declared.fault.EditFault.{EditFault}
use Rattle.bench.specs.Benches.{SnapshotRecord}
use Rattle.session.specs.declared.commands.question.ChangeName.{ChangeName}
use Rattle.session.specs.ToolAnswers.{change_by}

-- the place of the net of a change was found, or why there is no such change
pub record IsChangeOf (snapshot : SnapshotRecord) (change : ChangeName) (place : ℕ) : Type 0 where
  pub place_within : place < length snapshot.design.nets
  pub net : slice_get snapshot.design.nets place ≡ net_named snapshot.design change.net
  pub time_within : change.time ≤ snapshot.design.horizon

abbrev pub IsChange : SnapshotRecord → ChangeName → Result ℕ EditFault → Type 0
IsChange snapshot change (Ok place) = IsChangeOf snapshot change place
IsChange snapshot change (Err fault) = (lines : NetEntry → List ℕ) → change_by snapshot change.time lines (net_named snapshot.design change.net) ≡ Err fault

-- the wanted lines were written, or nothing for the wanted cause
abbrev pub Tells : {E : Type 0} → Result (List ℕ) E → Outgoing → Outgoing → Result (Unit {0}) E → Type 0
Tells (Ok lines) old new (Ok done) = Adds old new lines
Tells (Err wanted) old new (Err fault) = (fault ≡ wanted) × (new ≡ old)
Tells (Ok lines) old new (Err fault) = ⊥
Tells (Err wanted) old new (Ok done) = ⊥
