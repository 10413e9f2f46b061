-- When a look is wrong.
use Rattle.std.specs.Prelude.{◌≡◌, ◌≢◌, ◌↔◌, ◌⊎◌, ◌<◌, ℕ, Bool, true, false, IsTrue, List, Result, Ok, Err, length, option_map, slice_get}
use Rattle.gatestep.specs.Step.{Evaluation, State, advance}
use Rattle.gatestep.specs.declared.fault.StepFault.{StepFault}
use Rattle.design.specs.Keys.{Keyed, netlist}
use Rattle.design.specs.Netlist.{Netlist}
use Rattle.scratch.specs.Run.{wave_of}
use Rattle.scratch.specs.kept.Run.{IsRun}
use Rattle.waveform.specs.kept.Runs.{RunRecord}
use Rattle.hubcore.specs.Lists.{EntryRecord, StartsWith}
use Rattle.hub.specs.kept.Desks.{LogRecord}
use Rattle.racer.specs.Tallies.{TallyRecord}
use Rattle.racer.specs.kept.Tallies.{with_look, with_viewer}

-- each net of the design has the same wave by this answer as by the rule of gates
abbrev pub SameWaves : Netlist → (Evaluation → ℕ → State) → Type 0
SameWaves d answer =
    (place : ℕ) → place < length d.nets → option_map (wave_of advance d) (slice_get d.nets place) ≡ option_map (wave_of answer d) (slice_get d.nets place)

-- What is counted of a look at this design, of which a run was made from scratch: it is right exactly where each net has the same
-- wave in both, and wrong where the run was refused.
abbrev pub IsCounted : Keyed → Result RunRecord StepFault → (before now : TallyRecord) → Type 0
IsCounted d (Ok run) before now =
    (answer : Evaluation → ℕ → State) → IsRun answer d run → (right : Bool) × (now ≡ with_look right before) × (IsTrue right ↔ SameWaves (netlist d) answer)
IsCounted d (Err fault) before now = now ≡ with_look false before

-- the log of a hub that has ended, and of how many commits its editors were told, the one that was told of more
pub record SettledRecord : Type 0 where
  pub log : LogRecord
  pub told : ℕ

-- Whether the editors were told of all commits of the log, and what was published begins with all that a viewer saw.
abbrev pub IsAccount : SettledRecord → List EntryRecord → Bool → Type 0
IsAccount s seen true = (s.told ≡ length s.log.commits) × StartsWith s.log.told seen
IsAccount s seen false = (s.told ≢ length s.log.commits) ⊎ (length s.log.told < length seen)

-- a viewer that saw these commits has ended: one of its looks is wrong where the editors were not told of the whole log, or where it
-- saw what was not published
abbrev pub HasEnded : SettledRecord → List EntryRecord → (before now : TallyRecord) → Type 0
HasEnded s seen before now = (right : Bool) × IsAccount s seen right × (now ≡ with_viewer right before)
