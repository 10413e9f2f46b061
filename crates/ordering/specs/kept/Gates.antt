-- What a run asks, gate after gate.
use Rattle.std.specs.Prelude.{◌&&◌, Bool, ℕ, List, map, sum_by, count_by}
use Rattle.std.specs.List.{filter, flat_map}
pub use Rattle.gatestep.specs.Jobs.{IsBeginning}
use Rattle.gatestep.specs.Step.{State, Evaluation}
use Rattle.design.specs.Netlist.{GateEntry, Netlist}
use Rattle.waveform.specs.Timelines.{moments}
pub use Rattle.gateline.specs.kept.Gates.{gate_work_at, gate_work_from, moments_from}
use Rattle.gateline.specs.kept.Line.{always_wanted}
use Rattle.scratch.specs.Work.{is_stirred, task_at}

-- what is asked of one gate at the moments below n, in order of time
abbrev pub gate_work : (Evaluation → ℕ → State) → Netlist → GateEntry → ℕ → List (Evaluation × ℕ)
gate_work answer d g n = gate_work_at answer d always_wanted g (moments n)

-- what is asked of some gates at the moments below n, gate after gate
abbrev pub gates_work : (Evaluation → ℕ → State) → Netlist → ℕ → List GateEntry → List (Evaluation × ℕ)
gates_work answer d n gates = flat_map (λ g. gate_work answer d g n) gates

-- what is asked of some gates at the moments from a on and below n, gate after gate
abbrev pub gates_work_from : (Evaluation → ℕ → State) → Netlist → (a n : ℕ) → List GateEntry → List (Evaluation × ℕ)
gates_work_from answer d a n gates = flat_map (λ g. gate_work_from answer d always_wanted g a n) gates

-- the tasks of a design at some moments, those that a test of gates and moments lets through, moment after moment
abbrev pub rows_of : (Evaluation → ℕ → State) → Netlist → (asks : GateEntry → ℕ → Bool) → List ℕ → List (Evaluation × ℕ)
rows_of answer d asks times = flat_map (λ t. map (λ g. (task_at answer d g t, t)) (filter (λ g. asks g t) d.gates)) times

-- and those of one gate
abbrev pub column_of : (Evaluation → ℕ → State) → Netlist → (asks : GateEntry → ℕ → Bool) → List ℕ → GateEntry → List (Evaluation × ℕ)
column_of answer d asks times g = map (λ t. (task_at answer d g t, t)) (filter (λ t. asks g t) times)

-- how many pairs of a gate and a moment below n there are at which the gate is stirred and what is asked of it passes a test
abbrev pub stirred_pairs : (Evaluation → ℕ → State) → Netlist → ℕ → (Evaluation × ℕ → Bool) → ℕ
stirred_pairs answer d n test = sum_by (λ g. count_by (λ t. is_stirred answer d g t && test (task_at answer d g t, t)) (moments n)) d.gates
