-- The run as the value of each net at each moment.
use Rattle.std.specs.Prelude.{ℕ, List, map}
use Rattle.fourstate.specs.declared.value.Value.{Value}
use Rattle.gatestep.specs.Record.{at_moment}
use Rattle.gatestep.specs.Step.{State, Evaluation}
use Rattle.design.specs.Netlist.{Netlist}
use Rattle.waveform.specs.Timelines as timelines
use Rattle.scratch.specs.Run.{value}
use Rattle.scratch.specs.Work.{task_at}

-- the moments below n, in order
abbrev pub moments : ℕ → List ℕ
moments n = timelines.moments n

-- the value of each net at t
abbrev pub values_at : (Evaluation → ℕ → State) → Netlist → ℕ → List Value
values_at answer d t = map (λ n. value answer d n t) d.nets

-- what is asked at t where every gate is evaluated at every moment
abbrev pub all_work_at : (Evaluation → ℕ → State) → Netlist → ℕ → List (Evaluation × ℕ)
all_work_at answer d t = at_moment t (map (λ g. task_at answer d g t) d.gates)
