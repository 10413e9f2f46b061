-- What a race starts with: the design of its text, the hub of it, and the commits in two hands.
use Rattle.std.specs.Prelude.{◌≡◌, ◌+◌, ℕ, List, None, Ok, length}
use Rattle.design.specs.Netlist.{Netlist, with_horizon}
use Rattle.edits.specs.declared.fault.EditFault.TheVariants as edit
use Rattle.bench.specs.Benches.{SnapshotRecord, snapshot_of}
use Rattle.vread.specs.Reads.{Spells}
use Rattle.vtext.specs.declared.fault.ReadFault.{ReadFault}
use Rattle.vtext.specs.declared.fault.ReadFaultKind.{ReadFaultKind}
use Rattle.vtext.specs.declared.fault.ReadFaultKind.TheVariants as read
use Rattle.racer.specs.Scripts.{ScriptRecord, script_of}
use Rattle.racer.specs.Submits.{HandRecord, hand_of}
use Rattle.racer.specs.Turns.{in_turn}
use Rattle.racer.specs.declared.race.RaceEnd.{RaceEnd}
use Rattle.racer.specs.declared.race.RaceEnd.TheVariants.{Design, Memory}

-- the last moment of the runs of a race
abbrev pub horizon : ℕ
horizon = 1000

-- the text spells this design, but for its horizon, which is that of a race
abbrev pub IsStart : List ℕ → Netlist → Type 0
IsStart text design = (d : Netlist) × Spells None text d × (design ≡ with_horizon d horizon)

-- a hub that begins with this snapshot begins with the design that the text spells
abbrev pub BeginsWith : List ℕ → SnapshotRecord → Type 0
BeginsWith text origin = (d : Netlist) × IsStart text d × (origin ≡ snapshot_of 0 d)

-- the commits of the script are in these hands in turn, the first one in that of the editor 0
abbrev pub AreDealt : List ℕ → (first second : HandRecord) → Type 0
AreDealt script first second =
    (whole : ScriptRecord) × (script_of script ≡ Ok whole) × (length first.commits + length second.commits ≡ length whole.commits)
    × (first ≡ hand_of 0 (in_turn whole.commits).0) × (second ≡ hand_of 1 (in_turn whole.commits).1)

-- the end by a fault of this kind of the design text
abbrev pub end_by : ReadFaultKind → ReadFault → RaceEnd
end_by (read.Edit edit.OutOfMemory) fault = Memory
end_by kind fault = Design fault
