-- The run of an old design by the places of a new one: for each net of the new design the wave of the net of its name, and
-- for each gate the trace of the gate of its name.
use Rattle.std.specs.Prelude.{◌≡◌, ◌<◌, ℕ, zero, suc, Bool, List, [], IfSome, length, slice_get}
use Rattle.std.specs.List.{slice_index_or}
use Rattle.fourstate.specs.declared.value.Value.{Value}
use Rattle.gatestep.specs.Step.{State, Evaluation, initial}
use Rattle.design.specs.Connections.{to_net}
use Rattle.design.specs.Keys.{Keyed}
use Rattle.design.specs.Netlist.{Netlist}
use Rattle.waveform.specs.Changes.{wave_at, wave_changes_below}
use Rattle.waveform.specs.kept.Changes.{state_at, trace_below}
use Rattle.scratch.specs.declared.wiring.Input.{Input}
use Rattle.scratch.specs.declared.wiring.Input.TheVariants.{At, Fixed}
use Rattle.rundiff.specs.Dirty.{is_new}
use Rattle.rundiff.specs.kept.Fronts.{named_state}
use Rattle.rundiff.specs.kept.Kept.{read_at}
use Rattle.rundiff.specs.kept.Places.{gate_at, net_at}

-- this is so of each element and its place
abbrev pub HoldsEach : {X : Type 0} → List X → (ℕ → X → Type 0) → Type 0
HoldsEach xs P = (p : ℕ) → IfSome (slice_get xs p) (P p)

-- waves and traces as contracts see them, and of each gate whether the old design has no such gate
pub record OldRunRecord : Type 0 where
  pub waves : List (List (ℕ × Value))
  pub traces : List (List (ℕ × State))
  pub others : List Bool

-- the old design, and its run
pub record OldLinesRecord : Type 0 where
  pub design : Keyed
  pub run : OldRunRecord

-- the run of the old design: the lines of the nets and of the gates with the names of the new ones, and which gates are new
pub record AreOldRun (answer : Evaluation → ℕ → State) (old new : Netlist) (run : OldRunRecord) : Type 0 where
  pub wave_count : length run.waves ≡ length new.nets
  pub trace_count : length run.traces ≡ length new.gates
  pub other_count : length run.others ≡ length new.gates
  pub waves : HoldsEach run.waves (λ p wave. wave ≡ wave_changes_below (read_at answer old (to_net (net_at new p).name)) (suc old.horizon))
  pub traces : HoldsEach run.traces (λ p trace. trace ≡ trace_below (named_state answer old (gate_at new p).name) (suc old.horizon))
  pub others : HoldsEach run.others (λ p other. other ≡ is_new old (gate_at new p))

-- where an input reads a net, there is a wave for it
abbrev pub HasWave : OldRunRecord → Input → Type 0
HasWave run (At p) = p < length run.waves
HasWave run (Fixed v) = Unit {0}

-- what an input read at t
abbrev pub old_value : OldRunRecord → ℕ → Input → Value
old_value run t (At p) = wave_at (slice_index_or run.waves p []) t
old_value run t (Fixed v) = v

-- the state before t by a trace
abbrev pub state_till : List (ℕ × State) → ℕ → State
state_till entries zero = initial
state_till entries (suc t) = state_at entries t
