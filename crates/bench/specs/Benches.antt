-- What a snapshot and a bench are seen as.
use Rattle.std.specs.Prelude.{◌≡◌, ◌≤◌, ◌⊎◌, ℕ, List, Option, option_map}
use Rattle.std.specs.List.{find}
use Rattle.std.specs.Option.{option_map_or}
use Rattle.fourstate.specs.declared.value.Value.{Value}
use Rattle.gatestep.specs.Step.{Evaluation, advance}
use Rattle.design.specs.Names.{same_name}
use Rattle.design.specs.Netlist.{Netlist, net_named}
use Rattle.scratch.specs.Run.{wave_of}

-- what stands after a commit: how many commits there were, and the design, which determines the run
pub record SnapshotRecord : Type 0 where
  pub version : ℕ
  pub design : Netlist

abbrev pub snapshot_of : ℕ → Netlist → SnapshotRecord
snapshot_of version design = record { version = version; design = design }

-- the present snapshot; the name of each net, in order, with a version since which the net of that name has its wave; a version
-- since which no net has a name that none has at present; all that the stepper was asked, each task with its moment; and how
-- many of its steps lost a worker
pub record BenchRecord : Type 0 where
  pub snapshot : SnapshotRecord
  pub since : List (List ℕ × ℕ)
  pub gone : ℕ
  pub asked : List (Evaluation × ℕ)
  pub losses : ℕ

-- Since when a name stands for what it does.

-- the version of a name, by those of the nets
abbrev pub version_in : List (List ℕ × ℕ) → ℕ → List ℕ → ℕ
version_in since gone name = option_map_or (λ e. e.1) (find (λ e. same_name e.0 name) since) gone

-- the version since which a name has its wave in a bench, or no net has the name
abbrev pub since_of : BenchRecord → List ℕ → ℕ
since_of bench name = version_in bench.since bench.gone name

-- the wave of the net of a name, if there is one
abbrev pub wave_in : Netlist → List ℕ → Option (List (ℕ × Value))
wave_in d name = option_map (wave_of advance d) (net_named d name)

-- a commit may have changed what a name stands for, or the version of the name stays, and so does the wave
abbrev pub IsNewOrStays : (old new : BenchRecord) → List ℕ → Type 0
IsNewOrStays old new name =
    (since_of new name ≡ new.snapshot.version)
    ⊎ ((since_of new name ≡ since_of old name) × (wave_in new.snapshot.design name ≡ wave_in old.snapshot.design name))

-- a snapshot from the past of a bench: a name has the same wave in both if it has it in the bench since a version that the
-- snapshot had reached
pub record IsPast (bench : BenchRecord) (held : SnapshotRecord) : Type 0 where
  pub version : held.version ≤ bench.snapshot.version
  pub waves : (name : List ℕ) → since_of bench name ≤ held.version → wave_in bench.snapshot.design name ≡ wave_in held.design name
