-- What a value of the code that is a run of a design has under each key.
use Rattle.std.specs.Prelude.{◌≡◌, ℕ, suc, List, option_map}
use Rattle.gatestep.specs.Step.{State, Evaluation}
use Rattle.design.specs.Keys.{Keyed, entry_in, netlist}
use Rattle.design.specs.kept.Keys.{gate_by_key, net_by_key}
use Rattle.design.specs.Netlist.{GateEntry, Netlist}
use Rattle.waveform.specs.kept.Changes.{trace_below}
use Rattle.waveform.specs.kept.Runs.{RunRecord}
use Rattle.waveform.specs.kept.Tables.{line_at}
use Rattle.scratch.specs.Run.{state_after, wave_of}

-- the trace of a gate's state up to the horizon
abbrev pub trace_of : (Evaluation → ℕ → State) → Netlist → GateEntry → List (ℕ × State)
trace_of answer d g = trace_below (state_after answer d g) (suc d.horizon)

-- this is the run of the design by this answer: under the key of each net its wave, under the key of each gate its trace, up to
-- the horizon, and nothing under any other key
pub record IsRun (answer : Evaluation → ℕ → State) (d : Keyed) (run : RunRecord) : Type 0 where
  pub waves : (key : ℕ) → line_at run.waves key ≡ option_map (wave_of answer (netlist d)) (net_by_key d key)
  pub traces : (key : ℕ) → line_at run.traces key ≡ option_map (λ g. trace_of answer (netlist d) (entry_in d.nets g)) (gate_by_key d key)
  pub horizon : run.horizon ≡ (netlist d).horizon

-- this is the run of the design by some answer
abbrev pub IsSomeRun : Keyed → RunRecord → Type 0
IsSomeRun d run = (answer : Evaluation → ℕ → State) × IsRun answer d run
