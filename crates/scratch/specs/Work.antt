-- What a run asks of its stepper: at each moment the gates that are stirred, in some order.
use Rattle.std.specs.Prelude.{◌||◌, Bool, true, false, not, ℕ, zero, suc, nat_le, List, [], ◌++◌, map}
use Rattle.std.specs.Cmp.Lexicographic.{pointwise}
use Rattle.std.specs.List.{filter}
use Rattle.std.specs.Option.{option_map_or}
use Rattle.fourstate.specs.declared.value.Value.{Value}
use Rattle.fourstate.specs.Values.{same_value}
use Rattle.gatestep.specs.Record.{at_moment}
use Rattle.gatestep.specs.Step.{State, Evaluation}
use Rattle.design.specs.Netlist.{GateEntry, Netlist}
use Rattle.scratch.specs.Run.{evaluation_at, state_before}

-- what is evaluated of a gate at t, if it is
abbrev pub task_at : (Evaluation → ℕ → State) → Netlist → GateEntry → ℕ → Evaluation
task_at answer d g t = evaluation_at d (state_before answer d t) g t

-- the values that a gate reads at t
abbrev pub inputs_at : (Evaluation → ℕ → State) → Netlist → GateEntry → ℕ → List Value
inputs_at answer d g t = (task_at answer d g t).inputs

abbrev pub same_values : List Value → List Value → Bool
same_values = pointwise same_value

-- the pending event is due at t
abbrev pub is_due : State → ℕ → Bool
is_due s t = option_map_or (λ event. nat_le event.1 t) s.pending false

-- a gate is stirred at t: t is 0, or its inputs have other values than at the moment before, or its event is due
abbrev pub is_stirred : (Evaluation → ℕ → State) → Netlist → GateEntry → ℕ → Bool
is_stirred answer d g zero = true
is_stirred answer d g (suc t) =
    not (same_values (inputs_at answer d g (suc t)) (inputs_at answer d g t)) || is_due (state_before answer d (suc t) g) (suc t)

-- the gates that are stirred at t, in order
abbrev pub stirred_at : (Evaluation → ℕ → State) → Netlist → ℕ → List GateEntry
stirred_at answer d t = filter (λ g. is_stirred answer d g t) d.gates

-- what is asked at t, each task with its moment
abbrev pub work_at : (Evaluation → ℕ → State) → Netlist → ℕ → List (Evaluation × ℕ)
work_at answer d t = at_moment t (map (λ g. task_at answer d g t) (stirred_at answer d t))

-- what is asked at the moments below n, in order
abbrev pub work_below : (Evaluation → ℕ → State) → Netlist → ℕ → List (Evaluation × ℕ)
work_below answer d zero = []
work_below answer d (suc t) = work_below answer d t ++ work_at answer d t
