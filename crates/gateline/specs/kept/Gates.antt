-- What a run asks of one gate of its design.
use Rattle.std.specs.Prelude.{◌&&◌, Bool, ℕ, nat_le, List, map}
use Rattle.std.specs.List.{filter}
use Rattle.design.specs.Netlist.{GateEntry, Netlist}
use Rattle.gatestep.specs.Step.{Evaluation, State}
use Rattle.scratch.specs.Work.{is_stirred, task_at}
use Rattle.waveform.specs.Timelines.{moments}

-- the moments from a on and below n, in order
abbrev pub moments_from : (a n : ℕ) → List ℕ
moments_from a n = filter (λ t. nat_le a t) (moments n)

-- what is asked of one gate at some moments, in their order, where some of its tasks are wanted
abbrev pub gate_work_at : (Evaluation → ℕ → State) → Netlist → (wanted : Evaluation → ℕ → Bool) → GateEntry → List ℕ → List (Evaluation × ℕ)
gate_work_at answer d wanted g times =
    map (λ t. (task_at answer d g t, t)) (filter (λ t. wanted (task_at answer d g t) t && is_stirred answer d g t) times)

-- what is asked of it at the moments from a on and below n
abbrev pub gate_work_from : (Evaluation → ℕ → State) → Netlist → (wanted : Evaluation → ℕ → Bool) → GateEntry → (a n : ℕ) → List (Evaluation × ℕ)
gate_work_from answer d wanted g a n = gate_work_at answer d wanted g (moments_from a n)
